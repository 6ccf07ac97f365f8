-- The least denial of those found place by place: a later denial replaces the first one only if its rule is less.
use Rattle.std.proofs.{Common.{◌<◌, ◌≤◌, ◌⊎◌, None, Option, Some, arith, inl, inr}, lemmas.{Bool.cases_order, Cmp.nat_list_cmp_total}}
use Rattle.{policy.specs.Places.{ComesBefore, FindsLeast}, verdict.specs.{declared.denial.Denial.Denial, Verdict.{place_of, rule_number}}}

-- the denials at the places looked at before, at the next one, and at all of these
pub record LooksFurther (Before Here After : Denial → Type 0) : Type 0 where
  pub split : (d : Denial) → After d → Before d ⊎ Here d
  pub more : (d : Denial) → Before d → After d
  pub this : (d : Denial) → Here d → After d
  pub by_rule : (d e : Denial) → After d → After e → rule_number (Some d) < rule_number (Some e) → ComesBefore (place_of d) (place_of e)
  pub not_later :
      (d e : Denial) → Before d → Here e → rule_number (Some d) ≤ rule_number (Some e) → ComesBefore (place_of e) (place_of d) → ⊥
  pub most : (d : Denial) → After d → rule_number (Some d) < rule_number None

module _ (Before Here After : Denial → Type 0) (looks : LooksFurther Before Here After) where
  -- a denial of a lesser rule becomes the least
  pub least_new :
      (first next : Option Denial) → FindsLeast place_of Here next → FindsLeast place_of Before first → rule_number next < rule_number first
      → FindsLeast place_of After next
  least_new None None least none lt = absurd (omega (arith, lt))
  least_new (Some d) None least first lt = absurd (let most = looks.most d (looks.more d first.has) in omega (arith, lt, most))
  least_new None (Some e) least none lt = record {
    has = looks.this e least.has;
    first = λ other h before. elim (looks.split other h) [ inl h ↦ none other h | inr h ↦ least.first other h before ];
  }
  least_new (Some d) (Some e) least first lt = record {
    has = looks.this e least.has;
    first = λ other h before. elim (looks.split other h) [
      | inl h ↦
          first.first other h (nat_list_cmp_total.trans (place_of other) (place_of e) (place_of d) before
          (looks.by_rule e d (looks.this e least.has) (looks.more d first.has) lt))
      | inr h ↦ least.first other h before
    ];
  }

  -- a denial of the same rule or a greater one doesn't
  pub least_kept :
      (first next : Option Denial) → FindsLeast place_of Here next → FindsLeast place_of Before first → rule_number first ≤ rule_number next
      → FindsLeast place_of After first
  least_kept None None least none le = λ other h. elim (looks.split other h) [ inl h ↦ none other h | inr h ↦ least other h ]
  least_kept None (Some e) least none le = absurd (let most = looks.most e (looks.this e least.has) in omega (arith, le, most))
  least_kept (Some d) None least first le = record {
    has = looks.more d first.has;
    first = λ other h before. elim (looks.split other h) [ inl h ↦ first.first other h before | inr h ↦ least other h ];
  }
  least_kept (Some d) (Some e) least first le = record {
    has = looks.more d first.has;
    first = λ other h before. elim (looks.split other h) [
      | inl h ↦ first.first other h before
      | inr h ↦ elim (cases_order (rule_number (Some other)) (rule_number (Some e))) [
        | inl same ↦ looks.not_later d other first.has h (omega (arith, le, same)) before
        | inr (inl below) ↦ least.first other h (looks.by_rule other e (looks.this other h) (looks.this e least.has) below)
        | inr (inr above) ↦ looks.not_later d other first.has h (omega (arith, le, above)) before
      ]
    ];
  }
