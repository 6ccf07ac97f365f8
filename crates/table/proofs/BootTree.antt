-- The derivation tree of a boot state: ranks rise along its pairs. A chain has at most two pairs, as a child that is a parent has a badge
-- and its own parent has none.
use Rattle.std.{specs.{Option.option_and_then, Prelude.{None, Option, Some}}, proofs.Common.{ℕ, ◌<◌, ◌==◌, ◌∙◌, ◌≡◌, ◌⊎◌, Bool, ap, arith}}
use Rattle.{std.proofs.{Common.{false, inl, inr, not, refl, sym, true}, lemmas.Bool.eq-eqb}, base.specs.declared.ids.SlotRef.SlotRef}
use Rattle.machine.specs.{declared.cap.Cap.Cap, Boot.IsBoot, Capabilities.badge_of, Layout.{Layout, initial_cap, initial_parent}}
use Rattle.machine.{specs.{Machine.{Machine, parent_of}, Tree.IsRanked, WellFormed.Descends}, proofs.TreeRanks.ranked_acyclic}
use Rattle.table.{specs.{Rules.IsLawful, Tree.{is_original, is_original_from, source_of}}, proofs.BootParts.{marked, paired}}

-- the depth of a capability: 0 for an original one without a badge, 1 for one with a badge, and 2 for a copy
abbrev by_mark : (original plain : Bool) → ℕ
by_mark true true = 0
by_mark true false = 1
by_mark false plain = 2

abbrev tier : Option Cap → ℕ
tier None = 0
tier (Some held) = by_mark held.original (badge_of held.detail == 0)

further_down :
    (above below : Cap) → above.original ≡ true → (badge_of above.detail ≡ 0) ⊎ (badge_of above.detail ≡ badge_of below.detail)
    → below.original ≡ not (badge_of below.detail == badge_of above.detail) → tier (Some above) < tier (Some below)
further_down above below original (inl none) mark = by_test (badge_of below.detail == 0) refl where
  top : (badge_of above.detail == 0) ≡ true
  top = eq-eqb (badge_of above.detail) 0 none

  by_test : (test : Bool) → (badge_of below.detail == 0) ≡ test → tier (Some above) < tier (Some below)
  by_test true plain =
      let copy : below.original ≡ false = mark ∙ rw (none, plain) refl in
      rw (original, top, copy) (omega arith)
  by_test false badged =
      let first : below.original ≡ true = mark ∙ rw (none, badged) refl in
      rw (original, top, first, badged) (omega arith)
further_down above below original (inr same) mark =
    let copy : below.original ≡ false = mark ∙ rw (same, eq-itself (badge_of below.detail)) refl in
    rw (original, copy) (by_test (badge_of above.detail == 0)) where
      by_test : (test : Bool) → by_mark true test < by_mark false (badge_of below.detail == 0)
      by_test true = omega arith
      by_test false = omega arith

      eq-itself : (n : ℕ) → (n == n) ≡ true
      eq-itself n = eq-eqb n n refl

-- ranks rise along all pairs of the table, and along some of them
pub boot-ranked :
    (t : Layout) (m : Machine) → IsLawful t
    → ((slot parent : SlotRef) → parent_of m slot ≡ Some parent → initial_parent t slot ≡ Some parent) → IsRanked m
unfolding is_original source_of
boot-ranked t m lawful of_table = (λ slot. tier (initial_cap t slot), rises) where
  rises : (slot parent : SlotRef) → parent_of m slot ≡ Some parent → tier (initial_cap t parent) < tier (initial_cap t slot)
  rises slot parent joined =
      let pair = paired t slot parent lawful (of_table slot parent joined) in
      let source : source_of t slot ≡ Some pair.above =
      ap (option_and_then (initial_cap t)) (of_table slot parent joined) ∙ pair.parent in
      let mark : pair.below.original ≡ not (badge_of pair.below.detail == badge_of pair.above.detail) =
      marked t slot pair.below lawful pair.child ∙ ap (λ source. is_original_from source pair.below.detail) source in
      rw (pair.parent, pair.child) (further_down pair.above pair.below pair.original pair.badge mark)

pub boot-acyclic : (t : Layout) (m : Machine) (slot : SlotRef) → IsLawful t → IsBoot t m → ¬ (Descends m slot slot)
boot-acyclic t m slot lawful boot =
    ranked_acyclic m (boot-ranked t m lawful (λ q parent joined. sym (boot.parents q) ∙ joined)) slot
