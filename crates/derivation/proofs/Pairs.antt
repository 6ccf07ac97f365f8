-- The pairs of the derivation tree after one is taken away.
use Rattle.std.{specs.{FinMap.get-remove, Prelude.{None, Some}}, proofs.Common.{◌∙◌, ◌≡◌, ◌≢◌, Bool, ap, cond, false, refl, sym, true}}
use Rattle.base.specs.declared.ids.SlotRef.{SlotRef}
use Rattle.machine.{specs.Machine.{Machine, parent_of, same_slot, without_parent}, proofs.{Exchange.slot_itself, LookUps.one_slot}}
use Rattle.machine.proofs.LookUps.{slot_total}

-- one slot has no parent, and all else is as it was
pub parent_of-without_parent :
    (m : Machine) (slot q : SlotRef) → parent_of (without_parent m slot) q ≡ cond (same_slot q slot) None (parent_of m q)
unfolding parent_of without_parent
parent_of-without_parent m slot q = get-remove slot_total m.parents slot q

-- two slots that differ don't tie
pub apart_slots : (a b : SlotRef) → a ≢ b → same_slot a b ≡ false
apart_slots a b differ = by_tie (same_slot a b) refl where
  by_tie : (tie : Bool) → same_slot a b ≡ tie → tie ≡ false
  by_tie true is = absurd (differ (one_slot a b is))
  by_tie false is = refl

-- a slot without a parent gets none
pub root_without_parent : (m : Machine) (slot q : SlotRef) → parent_of m q ≡ None → parent_of (without_parent m slot) q ≡ None
root_without_parent m slot q root = parent_of-without_parent m slot q ∙ by_tie (same_slot q slot) where
  by_tie : (tie : Bool) → cond tie None (parent_of m q) ≡ None
  by_tie true = refl
  by_tie false = root

-- a slot that is taken away from its parent has none
pub taken_from_parent : (m : Machine) (slot : SlotRef) → parent_of (without_parent m slot) slot ≡ None
taken_from_parent m slot =
    parent_of-without_parent m slot slot ∙ ap (λ tie. cond tie None (parent_of m slot)) (slot_itself slot)

-- a slot without children gets none
pub leaf_without_parent :
    (m : Machine) (slot parent : SlotRef) → ((child : SlotRef) → parent_of m child ≢ Some parent)
    → (child : SlotRef) → parent_of (without_parent m slot) child ≢ Some parent
leaf_without_parent m slot parent leaf child is =
    by_tie (same_slot child slot) (sym (parent_of-without_parent m slot child) ∙ is) where
      by_tie : (tie : Bool) → cond tie None (parent_of m child) ≡ Some parent → ⊥
      by_tie true there = cc
      by_tie false there = leaf child there
