-- The least denial of all slots, found slot by slot: slots rise, and each broken place of A1 to A3 is at a filled one.
use Rattle.std.specs.{declared.cmp.Ordering.TheVariants.Less, Cmp.tied_itself, List.find, Option.option_and_then, Ordering.is_eq}
use Rattle.std.proofs.Common.{[], ℕ, ◌+◌, ◌<◌, ◌∙◌, ◌∷◌, ◌≡◌, ◌≤◌, ◌⊎◌, List, None, Option, Some, ap}
use Rattle.std.proofs.Common.{arith, get_or, inl, inr, length, map, option_map, refl, slice_get, subst, sym}
use Rattle.std.proofs.lemmas.{Bool.cases_order, List.get_or-map, Option.{get_or_from_slice_get, same_Some, slice_get_within}}
use Rattle.base.specs.{declared.{edge.Edge.Edge, ids.SlotRef.SlotRef}, Kinds.kind_number}
use Rattle.machine.specs.{declared.{cap.Cap.Cap, layout.Filled.Filled}, Layout.{Layout, initial_cap}}
use Rattle.machine.{specs.Machine.{same_slot, slot_cmp}, proofs.LookUps.slot_total}
use Rattle.table.{specs.{Rules.IsLawful, Tree.IsPairOf}, proofs.Lookups.{filled_at, found_first, pair_at, parent_at}}
use Rattle.{policy.specs.{Domain.EdgeTest, Places.{ComesBefore, FindsLeast}}, labels.specs.SlotEdges.edges_with}
use Rattle.verdict.specs.{declared.denial.Denial.Denial, Rules.{a1, a2, a3, a4}}
use Rattle.verdict.specs.{Slots.{BreaksSlots, denial_by, is_missing, missing_edge}, Verdict.{place_of, rule_number}}
use Rattle.verdict.proofs.{LeastByRule.LooksFurther, RuleOrder.{before_by_rule, never_both}, SlotPlaces.{BreaksAt, IsAt, slot_least}}
use Rattle.verdict.specs.declared.denial.Denial.TheVariants as denial

-- the place of a denial at a slot begins with the number of its rule
pub rule_is : (d : Denial) → rule_number (Some d) < a4 → get_or (place_of d) 0 0 ≡ rule_number (Some d)
rule_is (denial.Capability _ _ _) slots = refl
rule_is (denial.Root _ _) slots = refl
rule_is (denial.Pair _ _) slots = refl
rule_is _ slots = absurd (omega (arith, slots))

at_a_slot : (slot : SlotRef) (d : Denial) → IsAt slot d → rule_number (Some d) < a4
at_a_slot slot (denial.Capability _ _ _) at = omega arith
at_a_slot slot (denial.Root _ _) at = omega arith
at_a_slot slot (denial.Pair _ _) at = omega arith
at_a_slot slot _ at = absurd at

by_rule : (one other : Denial) → rule_number (Some one) < a4 → rule_number (Some other) < a4 → rule_number (Some one) < rule_number (Some other) → ComesBefore (place_of one) (place_of other)
by_rule one other of_one of_other lt =
    before_by_rule (place_of one) (place_of other)
    (let one_is = rule_is one of_one in let other_is = rule_is other of_other in omega (arith, lt, one_is, other_is))

-- the place of an earlier slot comes before a later one of the same rule
before_by_slot :
    (rule : ℕ) (one other : SlotRef) (xs ys : List ℕ) → slot_cmp one other ≡ Less
    → ComesBefore (rule ∷ one.holder.0 ∷ one.index ∷ xs) (rule ∷ other.holder.0 ∷ other.index ∷ ys)
before_by_slot rule one other xs ys less = grind (arith, less)

slots_apart :
    (one other : SlotRef) (d e : Denial) → IsAt one d → IsAt other e → rule_number (Some d) ≡ rule_number (Some e) → slot_cmp one other ≡ Less
    → ComesBefore (place_of d) (place_of e)
slots_apart one other (denial.Capability s k l) (denial.Capability s' k' l') at_d at_e same less =
    before_by_slot a1 s s' (kind_number k ∷ l ∷ []) (kind_number k' ∷ l' ∷ []) ((λ i. slot_cmp (at_d i) (at_e i)) ∙ less)
slots_apart one other (denial.Root s l) (denial.Root s' l') at_d at_e same less =
    before_by_slot a2 s s' (l ∷ []) (l' ∷ []) ((λ i. slot_cmp (at_d i) (at_e i)) ∙ less)
slots_apart one other (denial.Pair s p) (denial.Pair s' p') at_d at_e same less =
    before_by_slot a3 s s' (p.holder.0 ∷ p.index ∷ []) (p'.holder.0 ∷ p'.index ∷ []) ((λ i. slot_cmp (at_d i) (at_e i)) ∙ less)
slots_apart one other d e at_d at_e same less =
    let of_d = at_a_slot one d at_d in let of_e = at_a_slot other e at_e in absurd (omega (arith, of_d, of_e, same))

module _ (t : Layout) (allowed : EdgeTest) where
  -- a filled slot holds its capability
  held_here : IsLawful t → (n : ℕ) (filled : Filled) → slice_get t.caps n ≡ Some filled → initial_cap t filled.slot ≡ Some filled.cap
  unfolding initial_cap
  held_here lawful n filled here =
      ap (option_map (λ (f : Filled). f.cap))
      (found_first (λ (f : Filled). same_slot f.slot filled.slot) t.caps n filled here (ap is_eq (tied_itself slot_total filled.slot))
      (λ i other lt at. ap is_eq
      (pair_at (λ (one two : Filled). slot_cmp one.slot two.slot ≡ Less) t.caps i n other filled lawful.draft.caps.rise lt at here)))

  -- the denial of the missing edge at each slot is the least at this slot
  pub least_at :
      IsLawful t → (missing : List (Option Edge)) → missing ≡ map (missing_edge t allowed) t.caps
      → (n : ℕ) (filled : Filled) → slice_get t.caps n ≡ Some filled → (edge : Option Edge) → edge ≡ get_or missing n edge
      → FindsLeast place_of (BreaksAt t allowed filled.slot) (option_and_then (λ edge. denial_by t filled.slot edge.kind edge.to) edge)
  least_at lawful missing same n filled here edge is =
      let at : Filled → Option Edge = missing_edge t allowed in
      subst (λ edge. FindsLeast place_of (BreaksAt t allowed filled.slot) (option_and_then (λ edge. denial_by t filled.slot edge.kind edge.to) edge))
      (sym (is ∙ ap (λ edges. get_or edges n edge) same ∙ get_or-map at t.caps n filled edge (slice_get_within t.caps n filled here)
      ∙ ap at (get_or_from_slice_get t.caps n filled filled here)
      ∙ ap (λ held. find (is_missing allowed) (edges_with t filled.slot held)) (sym (held_here lawful n filled here))))
      (slot_least t allowed filled.slot)

  -- a denial at one of the first filled slots
  pub record BrokenAmong (n : ℕ) (d : Denial) : Type 0 where
    pub at : ℕ
    pub within : at < n
    pub filled : Filled
    pub here : slice_get t.caps at ≡ Some filled
    pub broken : BreaksAt t allowed filled.slot d

  module _ (lawful : IsLawful t) (n : ℕ) (filled : Filled) (here : slice_get t.caps n ≡ Some filled) where
    -- a denial is at a slot before, or at this one
    at_this : (d : Denial) → BrokenAmong (n + 1) d → BrokenAmong n d ⊎ BreaksAt t allowed filled.slot d
    at_this d h = let within = h.within in elim (cases_order h.at n) [
      | inl same ↦ inr (subst (λ (f : Filled). BreaksAt t allowed f.slot d) (same_Some h.filled filled (sym h.here ∙ ap (slice_get t.caps) same ∙ here)) h.broken)
      | inr (inl before) ↦ inl (record { at = h.at; within = before; filled = h.filled; here = h.here; broken = h.broken })
      | inr (inr after) ↦ absurd (omega (arith, within, after))
    ]

    more : (d : Denial) → BrokenAmong n d → BrokenAmong (n + 1) d
    more d h = record { at = h.at; within = let within = h.within in omega (arith, within); filled = h.filled; here = h.here; broken = h.broken }

    this : (d : Denial) → BreaksAt t allowed filled.slot d → BrokenAmong (n + 1) d
    this d h = record { at = n; within = omega arith; filled = filled; here = here; broken = h }

    pub looks : LooksFurther (BrokenAmong n) (BreaksAt t allowed filled.slot) (BrokenAmong (n + 1))
    looks = record {
      split = at_this;
      more = more;
      this = this;
      by_rule = λ d e of_d of_e. by_rule d e (of_slots d of_d) (of_slots e of_e);
      not_later = not_later;
      most = λ d of. let slots = of_slots d of in omega (arith, slots);
    } where
      of_slots : (d : Denial) → BrokenAmong (n + 1) d → rule_number (Some d) < a4
      of_slots d h = at_a_slot h.filled.slot d h.broken.0

      not_later :
          (d e : Denial) → BrokenAmong n d → BreaksAt t allowed filled.slot e → rule_number (Some d) ≤ rule_number (Some e)
          → ComesBefore (place_of e) (place_of d) → ⊥
      not_later d e at_d at_e le before =
          let of_d = of_slots d (more d at_d) in
          let of_e = of_slots e (this e at_e) in
          elim (cases_order (rule_number (Some d)) (rule_number (Some e))) [
            | inl same ↦
                never_both (place_of d) (place_of e)
                (slots_apart at_d.filled.slot filled.slot d e at_d.broken.0 at_e.0 same
                (pair_at (λ (one two : Filled). slot_cmp one.slot two.slot ≡ Less) t.caps at_d.at n at_d.filled filled
                lawful.draft.caps.rise at_d.within at_d.here here))
                before
            | inr (inl below) ↦ never_both (place_of d) (place_of e) (by_rule d e of_d of_e below) before
            | inr (inr above) ↦ absurd (omega (arith, le, above))
          ]

  module _ (n : ℕ) (all : length t.caps ≤ n) where
    of_slot :
        (slot : SlotRef) (held : Cap) → initial_cap t slot ≡ Some held → (d : Denial)
        → ((s : SlotRef) → s ≡ slot → BreaksAt t allowed s d) → BrokenAmong n d
    of_slot slot held filled d broken =
        let f = filled_at t slot held filled in
        record { at = f.at; within = let within = slice_get_within t.caps f.at f.element f.here in omega (arith, within, all); filled = f.element; here = f.here; broken = broken f.element.slot f.key_is }

    covered : IsLawful t → (d : Denial) → BreaksSlots t allowed d → BrokenAmong n d
    covered lawful (denial.Capability slot k l) h =
        of_slot slot h.1.there.0 h.1.there.1 (denial.Capability slot k l) (λ s is. (sym is, h.1))
    covered lawful (denial.Root slot l) h = of_slot slot h.1.there.0 h.1.there.1 (denial.Root slot l) (λ s is. (sym is, h.1))
    covered lawful (denial.Pair child parent) h =
        let p = parent_at t child parent h.1.there in
        let kin =
        subst (IsPairOf t) (get_or_from_slice_get t.pairs p.at p.element p.element p.here)
        (lawful.tree p.at p.element (slice_get_within t.pairs p.at p.element p.here)) in
        of_slot child kin.below (ap (initial_cap t) (sym p.key_is) ∙ kin.child) (denial.Pair child parent) (λ s is. (sym is, h.1))
    covered lawful _ h = absurd (let slots = h.0 in omega (arith, slots))

    -- all slots
    pub least_of_all_slots :
        IsLawful t → (first : Option Denial) → FindsLeast place_of (BrokenAmong n) first
        → FindsLeast place_of (BreaksSlots t allowed) first
    least_of_all_slots lawful None none = λ d h. none d (covered lawful d h)
    least_of_all_slots lawful (Some first) least = record {
      has = (at_a_slot least.has.filled.slot first least.has.broken.0, least.has.broken.1);
      first = λ d h. least.first d (covered lawful d h);
    }
