-- Ranks of the derivation tree after a pair comes or goes.
use Rattle.std.{specs.Prelude.{None, Some, if◌then◌else◌}, proofs.Common.{ℕ, ◌<◌, ◌∙◌, ◌≡◌, ◌≢◌, ◌≤◌, Bool, ap, arith}}
use Rattle.{std.proofs.Common.{cond, false, refl, subst, suc, sym, true}, base.specs.declared.ids.SlotRef.SlotRef}
use Rattle.machine.specs.{Machine.{Machine, parent_of, same_slot, with_parent, without_parent}, Tree.{IsAlone, IsRanked}}
use Rattle.machine.proofs.{Exchange.slot_itself, LookUps.{one_slot, parent_of-with_parent}}
use Rattle.derivation.specs.Moving.{StandsNoLower}
use Rattle.derivation.proofs.Pairs.{apart_slots, leaf_without_parent, parent_of-without_parent, root_without_parent}

-- one slot gets a rank of its own
abbrev ranked_at : (SlotRef → ℕ) → SlotRef → ℕ → SlotRef → ℕ
ranked_at rank slot n q = if same_slot q slot then n else rank q

-- the others keep theirs
ranked_at-apart : (rank : SlotRef → ℕ) (slot : SlotRef) (n : ℕ) (q : SlotRef) → q ≢ slot → ranked_at rank slot n q ≡ rank q
ranked_at-apart rank slot n q apart = ap (λ tie. if tie then n else rank q) (apart_slots q slot apart)

-- that one has it
ranked_at-here : (rank : SlotRef → ℕ) (slot : SlotRef) (n : ℕ) → ranked_at rank slot n slot ≡ n
ranked_at-here rank slot n = ap (λ tie. if tie then n else rank slot) (slot_itself slot)

-- a slot comes under a parent, and the ranks stay
pub stays_ranked :
    (m : Machine) (rank : SlotRef → ℕ) (slot parent : SlotRef)
    → ((q above : SlotRef) → parent_of m q ≡ Some above → rank above < rank q)
    → rank parent < rank slot
    → (q above : SlotRef) → parent_of (with_parent m slot parent) q ≡ Some above → rank above < rank q
stays_ranked m rank slot parent rises less q above is =
    by_tie (same_slot q slot) refl (sym (parent_of-with_parent m slot parent q) ∙ is) where
      by_tie : (tie : Bool) → same_slot q slot ≡ tie → cond tie (Some parent) (parent_of m q) ≡ Some above → rank above < rank q
      by_tie true same there =
          let at : q ≡ slot = one_slot q slot same in
          let over : parent ≡ above = cc in
          subst (λ s. rank s < rank q) over (subst (λ s. rank parent < rank s) (sym at) less)
      by_tie false same there = rises q above there

-- without a pair the ranks stay
pub ranked_without : (m : Machine) (slot : SlotRef) (rank : SlotRef → ℕ)
    → ((q above : SlotRef) → parent_of m q ≡ Some above → rank above < rank q)
    → (q above : SlotRef) → parent_of (without_parent m slot) q ≡ Some above → rank above < rank q
ranked_without m slot rank rises q above is =
    by_tie (same_slot q slot) (sym (parent_of-without_parent m slot q) ∙ is) where
      by_tie : (tie : Bool) → cond tie None (parent_of m q) ≡ Some above → rank above < rank q
      by_tie true there = cc
      by_tie false there = rises q above there

-- a slot in no pair may have any rank
module _ (m : Machine) (ranked : IsRanked m) (slot : SlotRef) (n : ℕ) (leaf : (child : SlotRef) → parent_of m child ≢ Some slot)
    (root : parent_of m slot ≡ None) where
  rises_at :
      (q above : SlotRef) → parent_of m q ≡ Some above → ranked_at ranked.0 slot n above < ranked_at ranked.0 slot n q
  rises_at q above is =
      let less : ranked.0 above < ranked.0 q = ranked.1 q above is in
      let a = ranked_at-apart ranked.0 slot n above (λ same. leaf q (is ∙ ap Some same)) in
      let b =
      ranked_at-apart ranked.0 slot n q
      (λ same. let none : Some above ≡ None = sym is ∙ ap (parent_of m) same ∙ root in cc) in
      omega arith

  -- and may come under a slot of a lower one
  rises_under :
      (parent : SlotRef) → parent ≢ slot → ranked.0 parent < n
      → (q above : SlotRef) → parent_of (with_parent m slot parent) q ≡ Some above
      → ranked_at ranked.0 slot n above < ranked_at ranked.0 slot n q
  rises_under parent apart less = stays_ranked m (ranked_at ranked.0 slot n) slot parent rises_at below where
    below : ranked_at ranked.0 slot n parent < ranked_at ranked.0 slot n slot
    below =
        let a = ranked_at-apart ranked.0 slot n parent apart in
        let b = ranked_at-here ranked.0 slot n in omega arith

-- a slot in no pair may come under any other
pub ranked_insert :
    (m : Machine) (slot parent : SlotRef) → IsRanked m → IsAlone m slot → slot ≢ parent → IsRanked (with_parent m slot parent)
ranked_insert m slot parent ranked alone apart = (
  ranked_at ranked.0 slot (suc (ranked.0 parent)),
  rises_under m ranked slot (suc (ranked.0 parent)) alone.leaf alone.root parent (λ same. apart (sym same)) (omega arith),
)

module _ (m : Machine) (ranked : IsRanked m) (from to : SlotRef) (alone : IsAlone m to) where
  -- with the rank of another it is no lower than that
  no_lower : ranked_at ranked.0 to (ranked.0 from) to ≤ ranked_at ranked.0 to (ranked.0 from) from
  no_lower =
      let a = ranked_at-here ranked.0 to (ranked.0 from) in
      let b = by_tie (same_slot from to) in omega arith where
        by_tie : (tie : Bool) → cond tie (ranked.0 from) (ranked.0 from) ≡ ranked.0 from
        by_tie true = refl
        by_tie false = refl

  -- the slot in no pair comes under the parent of another that is a child no more
  pub lifted_under :
      (parent : SlotRef) → parent_of m from ≡ Some parent → StandsNoLower (with_parent (without_parent m from) to parent) to from
  lifted_under parent is = (
    (
      ranked_at ranked.0 to (ranked.0 from),
      rises_under (without_parent m from) (ranked.0, ranked_without m from ranked.0 ranked.1) to (ranked.0 from)
          (leaf_without_parent m from to alone.leaf) (root_without_parent m from to alone.root) parent
          (λ same. alone.leaf from (is ∙ ap Some same)) (ranked.1 from parent is),
    ),
    no_lower,
  )

  -- or stays in no pair
  pub lifted_root : StandsNoLower (without_parent m from) to from
  lifted_root = (
    (
      ranked_at ranked.0 to (ranked.0 from),
      rises_at (without_parent m from) (ranked.0, ranked_without m from ranked.0 ranked.1) to (ranked.0 from)
          (leaf_without_parent m from to alone.leaf) (root_without_parent m from to alone.root),
    ),
    no_lower,
  )

-- a child comes from one parent to another that is no lower
pub handed_no_lower :
    (m : Machine) (from to child : SlotRef) → StandsNoLower m to from → parent_of m child ≡ Some from
    → StandsNoLower (with_parent (without_parent m child) child to) to from
handed_no_lower m from to child place is =
    let less : place.0.0 from < place.0.0 child = place.0.1 child from is in
    let low : place.0.0 to ≤ place.0.0 from = place.1 in (
      (
        place.0.0,
        stays_ranked (without_parent m child) place.0.0 child to (ranked_without m child place.0.0 place.0.1) (omega arith),
      ),
      place.1,
    )
