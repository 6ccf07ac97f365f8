-- The pairs of a derivation tree that a slot leaves.
use Rattle.std.{specs.Prelude.{None, Option, Some, if◌then◌else◌, option_and_then, option_map}, proofs.Common.{◌<◌, ◌∙◌, ◌≡◌, ◌≢◌}}
use Rattle.{std.proofs.Common.{Bool, ap, arith, cond, false, refl, sym, true}, base.specs.declared.ids.SlotRef.SlotRef}
use Rattle.machine.specs.{Machine.{Machine, parent_of, same_slot, without_parent}, Orphans.past, Tree.IsRanked}
use Rattle.machine.proofs.{Exchange.slot_itself, LookUps.one_slot}
use Rattle.derivation.specs.{Moving.{StandsNoLower, handed_over, in_place}, Removing.{HasParents, parent_past, parent_without}}
use Rattle.derivation.proofs.{Moves.parent_of-handed_over, Pairs.{apart_slots, parent_of-without_parent}}

-- a child of the slot gets what is handed to it
past-itself : (slot : SlotRef) (above : Option SlotRef) → past slot above slot ≡ above
past-itself slot above = ap (λ tie. if tie then above else Some slot) (slot_itself slot)

-- a slot without children gives none up
pub leaf_past :
    (m : Machine) (slot : SlotRef) (above : Option SlotRef) → ((child : SlotRef) → parent_of m child ≢ Some slot)
    → (q : SlotRef) → parent_of m q ≡ parent_past m slot above q
leaf_past m slot above leaf q = as_was (parent_of m q) (leaf q) where
  as_was : (parent : Option SlotRef) → parent ≢ Some slot → parent ≡ option_and_then (past slot above) parent
  as_was None differs = refl
  as_was (Some parent) differs =
      ap (λ tie. if tie then above else Some parent) (sym (apart_slots parent slot (λ same. differs (ap Some same))))

-- children that are handed over to a parent have it
handed_past :
    (m : Machine) (slot parent q : SlotRef) → parent_of (handed_over m slot parent) q ≡ parent_past m slot (Some parent) q
handed_past m slot parent q = parent_of-handed_over m slot parent q ∙ by_parent (parent_of m q) where
  by_tie : (over : SlotRef) (tie : Bool) → Some (if tie then parent else over) ≡ (if tie then Some parent else Some over)
  by_tie over true = refl
  by_tie over false = refl

  by_parent : (over : Option SlotRef) → option_map (in_place slot parent) over ≡ option_and_then (past slot (Some parent)) over
  by_parent None = refl
  by_parent (Some over) = by_tie over (same_slot over slot)

-- a child that is taken away from the slot
module _ (m : Machine) (slot child : SlotRef) (is : parent_of m child ≡ Some slot) where
  -- the child makes no difference once all have been given up
  pub released_step : (q : SlotRef) → parent_past (without_parent m child) slot None q ≡ parent_past m slot None q
  released_step q =
      ap (option_and_then (past slot None)) (parent_of-without_parent m child q) ∙ by_tie (same_slot q child) refl where
        by_tie :
            (tie : Bool) → same_slot q child ≡ tie
            → option_and_then (past slot None) (cond tie None (parent_of m q)) ≡ parent_past m slot None q
        by_tie true at =
            sym (ap (option_and_then (past slot None)) (ap (parent_of m) (one_slot q child at) ∙ is) ∙ past-itself slot None)
        by_tie false at = refl

  -- who has a parent then had it
  pub had_parent : (q parent : SlotRef) → parent_of (without_parent m child) q ≡ Some parent → parent_of m q ≡ Some parent
  had_parent q parent now = by_tie (same_slot q child) (sym (parent_of-without_parent m child q) ∙ now) where
    by_tie : (tie : Bool) → cond tie None (parent_of m q) ≡ Some parent → parent_of m q ≡ Some parent
    by_tie true there = cc
    by_tie false there = there

-- pairs change, and then one more goes
pub rest_without :
    (old m : Machine) (slot : SlotRef) → m ≡ record old { parents = m.parents }
    → without_parent m slot ≡ record old { parents = (without_parent m slot).parents }
unfolding without_parent
rest_without old m slot rest = ap (λ (n : Machine). let changed : Machine = record n { parents = (without_parent m slot).parents } in changed) rest

-- a slot that has given its children up leaves the tree
pub leaves :
    (old m : Machine) (slot : SlotRef) → HasParents old m (parent_past old slot (parent_of old slot))
    → HasParents old (without_parent m slot) (parent_without old slot)
leaves old m slot given =
    record {
      rest = rest_without old m slot given.rest;
      parents =
          λ q.
          parent_of-without_parent m slot q ∙ ap (cond (same_slot q slot) None) (given.parents q);
    }

-- a parent stands above its child
pub above_no_lower :
    (m : Machine) → IsRanked m → (slot parent : SlotRef) → parent_of m slot ≡ Some parent → StandsNoLower m parent slot
above_no_lower m ranked slot parent is =
    let less : ranked.0 parent < ranked.0 slot = ranked.1 slot parent is in (ranked, omega arith)

-- a parent is another slot than its child
pub above_apart : (m : Machine) → IsRanked m → (slot parent : SlotRef) → parent_of m slot ≡ Some parent → slot ≢ parent
above_apart m ranked slot parent is same =
    let less : ranked.0 parent < ranked.0 slot = ranked.1 slot parent is in
    let one : ranked.0 slot ≡ ranked.0 parent = ap ranked.0 same in omega arith

-- children that are handed over to a parent are given up to it
pub handed_has :
    (m : Machine) (slot parent : SlotRef) → HasParents m (handed_over m slot parent) (parent_past m slot (Some parent))
unfolding handed_over
handed_has m slot parent = record { rest = refl; parents = handed_past m slot parent }
