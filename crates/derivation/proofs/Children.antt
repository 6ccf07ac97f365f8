-- The children that a slot still has while they are handed over to another.
use Rattle.std.specs.{FinMap.keys, List.{count_by, list_any}, Prelude.{None, Option, Some, if◌then◌else◌, option_map}}
use Rattle.std.proofs.Common.{ℕ, ◌<◌, ◌∙◌, ◌≡◌, ◌≢◌, Bool, List, ap, cond, false, refl, subst, sym, true}
use Rattle.base.specs.declared.ids.SlotRef.{SlotRef}
use Rattle.machine.{specs.Machine.{Machine, parent_of, same_slot, with_parent, without_parent}, proofs.Exchange.slot_itself}
use Rattle.{machine.proofs.LookUps.{one_slot, parent_of-with_parent}, objects.proofs.{Passing.fewer_pass, Ways.among_keys}}
use Rattle.derivation.{specs.Moving.{handed_over, in_place}, proofs.Moves.{in_place-from, parent_of-handed_over}}
use Rattle.derivation.proofs.Pairs.{apart_slots, parent_of-without_parent, taken_from_parent}

-- whether a slot is that parent
abbrev is_parent : SlotRef → Option SlotRef → Bool
is_parent slot None = false
is_parent slot (Some parent) = same_slot parent slot

-- how many of these are children of a slot
pub children_among : Machine → SlotRef → List SlotRef → ℕ
children_among m slot slots = count_by (λ q. is_parent slot (parent_of m q)) slots

-- a child that is handed over from one parent to another
module _ (m : Machine) (from to child : SlotRef) (apart : from ≢ to) (is : parent_of m child ≡ Some from) where
  -- the parent of each slot then
  parent_then :
      (q : SlotRef)
      → parent_of (with_parent (without_parent m child) child to) q
      ≡ cond (same_slot q child) (Some to) (cond (same_slot q child) None (parent_of m q))
  parent_then q =
      parent_of-with_parent (without_parent m child) child to q
      ∙ ap (cond (same_slot q child) (Some to)) (parent_of-without_parent m child q)

  -- the two parents don't tie
  not_to : same_slot to from ≡ false
  not_to = apart_slots to from (λ same. apart (sym same))

  -- who is a child of the first then was one
  was_one :
      (q : SlotRef) → is_parent from (parent_of (with_parent (without_parent m child) child to) q) ≡ true
      → is_parent from (parent_of m q) ≡ true
  was_one q now = by_tie (same_slot q child) (ap (is_parent from) (sym (parent_then q)) ∙ now) where
    by_tie :
        (tie : Bool) → is_parent from (cond tie (Some to) (cond tie None (parent_of m q))) ≡ true
        → is_parent from (parent_of m q) ≡ true
    by_tie true there = let no : same_slot to from ≡ false = not_to in cc
    by_tie false there = there

  -- the child itself was one, and is none then
  is_one_no_more :
      (q : SlotRef) → same_slot child q ≡ true
      → (is_parent from (parent_of (with_parent (without_parent m child) child to) q) ≡ false)
      × (is_parent from (parent_of m q) ≡ true)
  is_one_no_more q tie =
      subst
      (λ s.
      (is_parent from (parent_of (with_parent (without_parent m child) child to) s) ≡ false)
      × (is_parent from (parent_of m s) ≡ true))
      (one_slot child q tie) (
        ap (is_parent from)
            (parent_then child ∙ ap (λ t. cond t (Some to) (cond t None (parent_of m child))) (slot_itself child))
            ∙ not_to,
        ap (is_parent from) is ∙ slot_itself from,
      )

  -- the first has one less
  pub one_less :
      (slots : List SlotRef) → list_any (same_slot child) slots ≡ true
      → children_among (with_parent (without_parent m child) child to) from slots < children_among m from slots
  unfolding children_among
  one_less slots found =
      fewer_pass (λ q. is_parent from (parent_of (with_parent (without_parent m child) child to) q))
      (λ q. is_parent from (parent_of m q)) was_one slots (same_slot child) is_one_no_more found

-- a child that is taken away from its parent
module _ (m : Machine) (slot child : SlotRef) (is : parent_of m child ≡ Some slot) where
  -- who is a child then was one
  was_child :
      (q : SlotRef) → is_parent slot (parent_of (without_parent m child) q) ≡ true → is_parent slot (parent_of m q) ≡ true
  was_child q now = by_tie (same_slot q child) (ap (is_parent slot) (sym (parent_of-without_parent m child q)) ∙ now) where
    by_tie : (tie : Bool) → is_parent slot (cond tie None (parent_of m q)) ≡ true → is_parent slot (parent_of m q) ≡ true
    by_tie true there = cc
    by_tie false there = there

  -- the child itself was one, and is none then
  is_child_no_more :
      (q : SlotRef) → same_slot child q ≡ true
      → (is_parent slot (parent_of (without_parent m child) q) ≡ false) × (is_parent slot (parent_of m q) ≡ true)
  is_child_no_more q tie =
      subst
      (λ s. (is_parent slot (parent_of (without_parent m child) s) ≡ false) × (is_parent slot (parent_of m s) ≡ true))
      (one_slot child q tie)
      (ap (is_parent slot) (taken_from_parent m child), ap (is_parent slot) is ∙ slot_itself slot)

  -- the parent has one less
  pub one_taken :
      (slots : List SlotRef) → list_any (same_slot child) slots ≡ true
      → children_among (without_parent m child) slot slots < children_among m slot slots
  unfolding children_among
  one_taken slots found =
      fewer_pass (λ q. is_parent slot (parent_of (without_parent m child) q)) (λ q. is_parent slot (parent_of m q)) was_child
      slots (same_slot child) is_child_no_more found

-- who is a child of one slot now was at first a child of that one or of the other
module _ (old m : Machine) (from to child : SlotRef) (same : handed_over m from to ≡ handed_over old from to)
    (is : parent_of m child ≡ Some from) where
  -- once all are handed over it is a child of the other
  seen : option_map (in_place from to) (parent_of old child) ≡ Some to
  seen =
      sym (parent_of-handed_over old from to child)
      ∙ ap (λ n. parent_of n child) (sym same)
      ∙ parent_of-handed_over m from to child
      ∙ ap (option_map (in_place from to)) is
      ∙ ap Some (in_place-from from to)

  -- so it was in a pair
  pub among_first : list_any (same_slot child) (keys old.parents) ≡ true
  among_first = by_parent (parent_of old child) refl seen where
    by_parent :
        (parent : Option SlotRef) → parent_of old child ≡ parent → option_map (in_place from to) parent ≡ Some to
        → list_any (same_slot child) (keys old.parents) ≡ true
    by_parent None at there = cc
    by_parent (Some parent) at there = among_keys old child parent at

  -- and the two slots differ, if they did at first wherever there were children
  pub still_apart : ((q : SlotRef) → parent_of old q ≡ Some from → from ≢ to) → from ≢ to
  still_apart apart one = by_parent (parent_of old child) refl seen where
    by_tie : (parent : SlotRef) (tie : Bool) → same_slot parent from ≡ tie → (if tie then to else parent) ≡ to → parent ≡ from
    by_tie parent true at there = one_slot parent from at
    by_tie parent false at there = there ∙ sym one

    by_parent :
        (parent : Option SlotRef) → parent_of old child ≡ parent → option_map (in_place from to) parent ≡ Some to → ⊥
    by_parent None at there = cc
    by_parent (Some parent) at there =
        let to_it : in_place from to parent ≡ to = cc in
        apart child (at ∙ ap Some (by_tie parent (same_slot parent from) refl to_it)) one
