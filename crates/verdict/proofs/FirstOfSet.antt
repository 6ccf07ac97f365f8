-- The first broken place of a set of rules: first the policy's own rules, then the slots, then the bindings.
use mathlib.Core.Bool.{false≢true}
use Rattle.std.proofs.Common.{[], ℕ, ◌∷◌, ◌≡◌, ◌⊎◌, List, None, Option, Some, arith, get_or, inl, inr, lit<, refl, sym}
use Rattle.machine.specs.Layout.{Layout}
use Rattle.policy.specs.{Broken.broken_place, Domain.EdgeTest, Places.{Begins, ComesBefore, FindsLeast, IsLeast, IsNone}}
use Rattle.verdict.specs.{declared.{denial.Denial.Denial, rules.Rules.Rules}, ByRules.{BreaksBy, BreaksOwn}}
use Rattle.verdict.specs.{Rules.a4, Slots.BreaksSlots, Sources.of_table, Verdict.{BreaksUnder, IsExceeded, place_of}}
use Rattle.verdict.proofs.{BindingPlaces.begins_later, LeastOfSlots.rule_is, RuleOrder.{before_by_rule, first_rules, never_both}}
use Rattle.verdict.proofs.RuleSets.{broken_either, excess_breaks, own_breaks, own_first}
use Rattle.verdict.specs.declared.denial.Denial.TheVariants as denial

-- a property of two sorts: each place of the one sort comes before each of the other
pub record InTwoSorts (One Other All : Denial → Type 0) : Type 0 where
  pub either : (d : Denial) → All d → One d ⊎ Other d
  pub one : (d : Denial) → One d → All d
  pub other : (d : Denial) → Other d → All d
  pub before : (d e : Denial) → One d → Other e → ComesBefore (place_of d) (place_of e)

module _ (One Other All : Denial → Type 0) (sorts : InTwoSorts One Other All) where
  -- the first place of the one sort is the first of all
  pub least_one : (d : Denial) → IsLeast place_of One d → IsLeast place_of All d
  least_one d least = record {
    has = sorts.one d least.has;
    first = λ e all earlier. elim (sorts.either e all) [
      | inl one ↦ least.first e one earlier
      | inr other ↦ never_both (place_of d) (place_of e) (sorts.before d e least.has other) earlier
    ];
  }

  -- the first place of the other sort is the first of all, if there is none of the one
  pub least_other : IsNone One → (found : Option Denial) → FindsLeast place_of Other found → FindsLeast place_of All found
  least_other none None nothing = λ e all. elim (sorts.either e all) [ inl one ↦ none e one | inr other ↦ nothing e other ]
  least_other none (Some d) least = record {
    has = sorts.other d least.has;
    first = λ e all earlier. elim (sorts.either e all) [ inl one ↦ none e one | inr other ↦ least.first e other earlier ];
  }

-- the policy's own rules come before those of authority

pub own_and_excess :
    (set : Rules) (t : Layout) (allowed : EdgeTest)
    → InTwoSorts (BreaksOwn set t allowed) (IsExceeded (of_table t) allowed) (BreaksBy set t allowed)
own_and_excess set t allowed = record {
  either = broken_either set t allowed;
  one = own_breaks set t allowed;
  other = excess_breaks set t allowed;
  before = own_first set t allowed;
}

-- the rules of authority: slots come before bindings

module _ (t : Layout) (allowed : EdgeTest) where
  either_part : (d : Denial) → IsExceeded (of_table t) allowed d → BreaksSlots t allowed d ⊎ BreaksUnder t allowed (a4 ∷ []) d
  either_part (denial.Policy b) h = absurd h
  either_part (denial.Sharp b) h = absurd h
  either_part (denial.Capability slot kind label) h = inl (lit< tt, h)
  either_part (denial.Root slot label) h = inl (lit< tt, h)
  either_part (denial.Pair child parent) h = inl (lit< tt, h)
  either_part (denial.Binding thread context) h = inr ((refl, tt), h)
  either_part (denial.Holding reply thread) h = absurd (false≢true h.there)
  either_part (denial.Recorded thread kind label) h = absurd (false≢true h.there.1)
  either_part (denial.Certificate line) h = absurd h

  of_slots : (d : Denial) → BreaksSlots t allowed d → IsExceeded (of_table t) allowed d
  of_slots (denial.Policy b) h = absurd (omega (arith, h.0))
  of_slots d h = h.1

  of_bindings : (d : Denial) → BreaksUnder t allowed (a4 ∷ []) d → IsExceeded (of_table t) allowed d
  of_bindings (denial.Policy b) h = absurd (begins_later (broken_place b) (first_rules b) h.0)
  of_bindings d h = h.1

  begins : (place : List ℕ) → Begins (a4 ∷ []) place → get_or place 0 0 ≡ a4
  begins [] h = absurd h
  begins (x ∷ xs) h = sym h.0

  pub slots_and_bindings : InTwoSorts (BreaksSlots t allowed) (BreaksUnder t allowed (a4 ∷ [])) (IsExceeded (of_table t) allowed)
  slots_and_bindings = record {
    either = either_part;
    one = of_slots;
    other = of_bindings;
    before = λ d e slots under.
        before_by_rule (place_of d) (place_of e)
        (let lt = slots.0 in let one = rule_is d slots.0 in let other = begins (place_of e) under.0 in omega (arith, lt, one, other));
  }

-- the first of all, if the policy keeps its own rules: at the slots, or else of a binding

module _ (set : Rules) (t : Layout) (allowed : EdgeTest) (none : IsNone (BreaksOwn set t allowed)) where
  beyond : (found : Option Denial) → FindsLeast place_of (IsExceeded (of_table t) allowed) found → FindsLeast place_of (BreaksBy set t allowed) found
  beyond =
      least_other (BreaksOwn set t allowed) (IsExceeded (of_table t) allowed) (BreaksBy set t allowed) (own_and_excess set t allowed) none

  pub at_slots : (d : Denial) → IsLeast place_of (BreaksSlots t allowed) d → IsLeast place_of (BreaksBy set t allowed) d
  at_slots d least =
      beyond (Some d)
      (least_one (BreaksSlots t allowed) (BreaksUnder t allowed (a4 ∷ [])) (IsExceeded (of_table t) allowed) (slots_and_bindings t allowed) d least)

  pub at_bindings :
      IsNone (BreaksSlots t allowed) → (found : Option Denial) → FindsLeast place_of (BreaksUnder t allowed (a4 ∷ [])) found
      → FindsLeast place_of (BreaksBy set t allowed) found
  at_bindings no_slot found least =
      beyond found
      (least_other (BreaksSlots t allowed) (BreaksUnder t allowed (a4 ∷ [])) (IsExceeded (of_table t) allowed) (slots_and_bindings t allowed)
      no_slot found least)
