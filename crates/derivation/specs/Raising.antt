-- Empty slots that come below their first filled ancestor (seL4 manual, "Capability Derivation Tree"; that a slot may be in the tree and
-- empty, while its object is being removed, is confine's own).
use Rattle.std.specs.{Option.is_none, Prelude.{◌≡◌, ◌⊎◌, Bool, Option, Some, if◌then◌else◌, true}}
use Rattle.{base.specs.declared.ids.SlotRef.SlotRef, machine.specs.{Machine.{Machine, cap_of, parent_of, same_slot}, Orphans.Nearest}}

-- whether a slot holds no capability
abbrev pub is_empty : Machine → SlotRef → Bool
is_empty m slot = is_none (cap_of m slot)

-- the empty ones among some slots, and each empty parent of such a one
pub data IsOnWay (m : Machine) (these : SlotRef → Bool) : SlotRef → Type 0 where
  start : {slot : SlotRef} → these slot ≡ true → is_empty m slot ≡ true → IsOnWay m these slot
  further : {low slot : SlotRef} → IsOnWay m these low → parent_of m low ≡ Some slot → is_empty m slot ≡ true → IsOnWay m these slot

-- only pairs of the tree have changed: some slots have come below their first filled ancestor, or become roots where there is none,
-- and each other has the parent that it had
pub record AreRaised (old new : Machine) (raised : SlotRef → Type 0) : Type 0 where
  pub rest : new ≡ record old { parents = new.parents }
  pub up : (slot : SlotRef) → raised slot → Nearest (parent_of old) (is_empty old) (parent_of old slot) (parent_of new slot)
  pub others : (slot : SlotRef) → (parent_of new slot ≡ parent_of old slot) ⊎ raised slot

-- raised are the empty slots among some, and those on the way from there to the first filled one
abbrev pub AreRaisedFrom : Machine → Machine → (SlotRef → Bool) → Type 0
AreRaisedFrom old new these = AreRaised old new (IsOnWay old these)

-- the parents of a tree in which one slot has come below another, or become a root
abbrev pub parent_hung : Machine → SlotRef → Option SlotRef → SlotRef → Option SlotRef
parent_hung m slot above q = if same_slot q slot then above else parent_of m q
