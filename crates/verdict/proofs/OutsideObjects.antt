-- The first place outside a policy, found object by object: it has the least rule that is broken, at the first object that breaks it.
use Rattle.std.proofs.Common.{[], ℕ, ◌+◌, ◌<◌, ◌∙◌, ◌∷◌, ◌≡◌, ◌≤◌, ◌⊎◌, IsSome, List, None, Option, Some, ap, arith, get_or, inl, inr}
use Rattle.std.proofs.{Common.{is_some, refl, subst, sym}, lemmas.{Bool.cases_order, Option.none-some}}
use Rattle.base.specs.{declared.ids.ObjId.ObjId, Kinds.kind_number}
use Rattle.machine.specs.{declared.object.Object.Object, Authority.label_of, Layout.Layout, Machine.{Machine, object_of}}
use Rattle.policy.{specs.{Domain.EdgeTest, Places.{ComesBefore, FindsLeast, IsLeast, IsNone}}, proofs.Places.decided}
use Rattle.verdict.specs.{declared.denial.Denial.Denial, Outside.{LiesAt, LiesOutside}, Rules.{Exceeds, Excess, c1, excess_place}}
use Rattle.verdict.{specs.{Sources.of_machine, Verdict.{IsOutside, excess_of, place_of, rule_number}}, proofs.DenialPlaces.denial_at}
use Rattle.verdict.proofs.{DenialPlaces.{exceeded_at, exceeded_there, numbered}, LeastByRule.LooksFurther, RuleOrder.before_by_rule}
use Rattle.verdict.specs.declared.denial.Denial.TheVariants as denial

-- the object that a place names first
abbrev pub object_in : Denial → ℕ
object_in d = get_or (place_of d) 1 0

-- the place of a later object doesn't come before that of an earlier one, unless its rule is less
later_object :
    (rule other at later : ℕ) (xs ys : List ℕ) → rule ≤ other → at < later → ComesBefore (other ∷ later ∷ ys) (rule ∷ at ∷ xs) → ⊥
later_object rule other at later xs ys le lt less = elim (decided other rule _ less) [
  | inl below ↦ omega (arith, le, below)
  | inr same ↦ elim (decided later at _ same.1) [ inl below ↦ omega (arith, lt, below) | inr tie ↦ omega (arith, lt, tie.0) ]
]

module _ (t : Layout) (allowed : EdgeTest) (m : Machine) where
  -- a place begins with its rule and its object
  record Stands (d : Denial) : Type 0 where
    rest : List ℕ
    is : place_of d ≡ rule_number (Some d) ∷ object_in d ∷ rest
    most : rule_number (Some d) < c1

  stands : (d : Denial) → LiesOutside t allowed m d → Stands d
  stands (denial.Policy b) out = absurd out
  stands (denial.Sharp b) out = absurd out
  stands (denial.Capability slot k l) out = record { rest = slot.index ∷ kind_number k ∷ l ∷ []; is = refl; most = omega arith }
  stands (denial.Root slot l) out = record { rest = slot.index ∷ l ∷ []; is = refl; most = omega arith }
  stands (denial.Pair child p) out = record { rest = child.index ∷ p.holder.0 ∷ p.index ∷ []; is = refl; most = omega arith }
  stands (denial.Binding thread context) out = record { rest = context.0 ∷ []; is = refl; most = omega arith }
  stands (denial.Holding reply thread) out = record { rest = thread.0 ∷ []; is = refl; most = omega arith }
  stands (denial.Recorded thread k l) out = record { rest = kind_number k ∷ l ∷ []; is = refl; most = omega arith }
  stands (denial.Certificate line) out = absurd out

  rule_is : (d : Denial) → LiesOutside t allowed m d → get_or (place_of d) 0 0 ≡ rule_number (Some d)
  rule_is d out = ap (λ place. get_or place 0 0) (stands d out).is

  by_rule :
      (d e : Denial) → LiesOutside t allowed m d → LiesOutside t allowed m e → rule_number (Some d) < rule_number (Some e)
      → ComesBefore (place_of d) (place_of e)
  by_rule d e of_d of_e lt =
      before_by_rule (place_of d) (place_of e) (let one = rule_is d of_d in let other = rule_is e of_e in omega (arith, lt, one, other))

  not_later :
      (d e : Denial) → LiesOutside t allowed m d → LiesOutside t allowed m e → rule_number (Some d) ≤ rule_number (Some e)
      → object_in d < object_in e → ComesBefore (place_of e) (place_of d) → ⊥
  not_later d e of_d of_e le lt before =
      let one = stands d of_d in
      let other = stands e of_e in
      later_object (rule_number (Some d)) (rule_number (Some e)) (object_in d) (object_in e) one.rest other.rest le lt
      (subst (ComesBefore (rule_number (Some e) ∷ object_in e ∷ other.rest)) one.is (subst (λ place. ComesBefore place (place_of d)) other.is before))

  labelled :
      (place : Excess) → Exceeds (of_machine t m) allowed place
      → (l : ℕ) × (label_of t m (record { 0 = get_or (excess_place place) 1 0 }) ≡ Some l)
  labelled (Excess.pair child p) out = (out.to, out.target)
  labelled place out = (out.from, out.source)

  pub unlabelled : (id : ObjId) → label_of t m id ≡ None → IsNone (LiesAt t allowed m id)
  unlabelled id none d h =
      let at = exceeded_at (of_machine t m) allowed d h.1 in
      let label = labelled at.0 at.2 in
      let number = sym h.0 ∙ ap (λ p. get_or p 1 0) (numbered d at.0 at.1) in
      none-some label.0 (sym none ∙ (λ i. label_of t m (record { 0 = number i })) ∙ label.1)

  absent_label : (id : ObjId) → object_of m id ≡ None → label_of t m id ≡ None
  unfolding label_of
  absent_label id absent = rw absent refl

  -- the denials at the objects below n
  abbrev pub LiesBelow : ℕ → Denial → Type 0
  LiesBelow n d = LiesOutside t allowed m d × (object_in d < n)

  module _ (n : ℕ) where
    at_this : (d : Denial) → LiesBelow (n + 1) d → LiesBelow n d ⊎ LiesAt t allowed m (record { 0 = n }) d
    at_this d h = let within = h.1 in elim (cases_order (object_in d) n) [
      | inl same ↦ inr (same, h.0)
      | inr (inl before) ↦ inl (h.0, before)
      | inr (inr after) ↦ absurd (omega (arith, within, after))
    ]

    more : (d : Denial) → LiesBelow n d → LiesBelow (n + 1) d
    more d h = (h.0, let within = h.1 in omega (arith, within))

    this : (d : Denial) → LiesAt t allowed m (record { 0 = n }) d → LiesBelow (n + 1) d
    this d h = (h.1, let at = h.0 in omega (arith, at))

    pub looks : LooksFurther (LiesBelow n) (LiesAt t allowed m (record { 0 = n })) (LiesBelow (n + 1))
    looks = record {
      split = at_this;
      more = more;
      this = this;
      by_rule = λ d e of_d of_e. by_rule d e of_d.0 of_e.0;
      not_later = λ d e of_d at_e le. not_later d e of_d.0 at_e.1 le (let within = of_d.1 in let at = at_e.0 in omega (arith, within, at));
      most = λ d of. (stands d of.0).most;
    }

  -- all objects
  pub least_of_all_objects :
      ((id : ObjId) → IsSome (object_of m id) → id.0 < m.next) → (n : ℕ) → m.next ≤ n → (first : Option Denial)
      → FindsLeast place_of (LiesBelow n) first → FindsLeast place_of (LiesOutside t allowed m) first
  least_of_all_objects numbered n all first least = by first least where
    below : (d : Denial) → LiesOutside t allowed m d → LiesBelow n d
    below d out = (out, within (object_of m id) refl) where
      id : ObjId
      id = record { 0 = object_in d }

      within : (object : Option Object) → object_of m id ≡ object → object_in d < n
      within None absent = absurd (unlabelled id (absent_label id absent) d (refl, out))
      within (Some object) is = let lt = numbered id (ap is_some is) in omega (arith, lt, all)

    by : (first : Option Denial) → FindsLeast place_of (LiesBelow n) first → FindsLeast place_of (LiesOutside t allowed m) first
    by None none = λ d out. none d (below d out)
    by (Some d) least = record { has = least.has.0; first = λ other out. least.first other (below other out) }

  -- each place outside has its denial, and each denial its place

  denied : (place : Excess) → Exceeds (of_machine t m) allowed place → (d : Denial) × LiesOutside t allowed m d × (place_of d ≡ excess_place place)
  denied place out =
      let d = denial_at place in (d.0, (exceeded_there (of_machine t m) allowed d.0 place d.1).1 out, numbered d.0 place d.1)

  pub nothing_outside : IsNone (LiesOutside t allowed m) → (place : Excess) → ¬ Exceeds (of_machine t m) allowed place
  nothing_outside none place out = let d = denied place out in none d.0 d.1

  pub first_place : (d : Denial) → IsLeast place_of (LiesOutside t allowed m) d → (place : Excess) × (excess_of d ≡ Some place) × IsOutside t allowed m place
  first_place d least =
      let at = exceeded_at (of_machine t m) allowed d least.has in (
        at.0,
        at.1,
        record {
          has = at.2;
          first = λ other out before.
              let e = denied other out in
              least.first e.0 e.1
              (subst (λ place. ComesBefore place (place_of d)) (sym e.2)
              (subst (ComesBefore (excess_place other)) (sym (numbered d at.0 at.1)) before));
        },
      )
