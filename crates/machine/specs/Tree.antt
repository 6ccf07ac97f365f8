-- Changes of the derivation tree: copies come under their source, and a capability moves with its place (seL4 manual, "Capability
-- Derivation Tree"; the choice of parents is confine's own).
use Rattle.std.specs.{FinMap.{entries, from_entries}, Prelude.{ℕ, ◌<◌, ◌==◌, ◌≡◌, ◌≢◌, None, Option, Some, if◌then◌else◌, map, not}}
use Rattle.base.specs.declared.ids.SlotRef.{SlotRef}
use Rattle.machine.specs.{declared.cap.{Cap.Cap, Detail.Detail}, Capabilities.badge_of, Machine.{Machine, parent_of, same_slot, with_cap}}
use Rattle.machine.specs.Machine.{with_parent, without_cap}

-- a copy with this detail: it is original if its badge differs from the source's
abbrev pub copied : Cap → Detail → Cap
copied source detail =
    record { object = source.object; detail = detail; original = not (badge_of detail == badge_of source.detail) }

-- the parent of a copy: its source if that is original, else the source's parent
abbrev pub parent_of_copy : Machine → SlotRef → Cap → Option SlotRef
parent_of_copy m slot source = if source.original then Some slot else parent_of m slot

-- a slot comes under a parent, if one is named
abbrev pub under : Machine → SlotRef → Option SlotRef → Machine
under m slot None = m
under m slot (Some parent) = with_parent m slot parent

-- a slot is filled with a copy of the capability in another
unfoldable pub with_copy : Machine → SlotRef → SlotRef → Cap → Detail → Machine
with_copy m target slot source detail =
    under (with_cap m target (copied source detail)) target (parent_of_copy m slot source)

-- swaps two slots, and leaves all others
abbrev pub exchange : SlotRef → SlotRef → SlotRef → SlotRef
exchange a b slot = if same_slot slot a then b else if same_slot slot b then a else slot

-- the tree in which two slots have changed places; one that was in no pair gets the other's place too
unfoldable pub with_exchanged : Machine → SlotRef → SlotRef → Machine
with_exchanged m a b =
    record m { parents = from_entries (map (λ pair. (exchange a b pair.0, exchange a b pair.1)) (entries m.parents)) }

-- a capability moves to an empty slot, with its place in the tree and its children
unfoldable pub with_moved : Machine → SlotRef → SlotRef → Cap → Machine
with_moved m target slot held = without_cap (with_exchanged (with_cap m target held) slot target) slot

-- a slot is in no pair of the tree
pub record IsAlone (m : Machine) (slot : SlotRef) : Type 0 where
  pub root : parent_of m slot ≡ None
  pub leaf : (child : SlotRef) → parent_of m child ≢ Some slot

-- ranks that rise from each parent to its children; so no slot descends from itself
abbrev pub IsRanked : Machine → Type 0
IsRanked m = (rank : SlotRef → ℕ) × ((slot parent : SlotRef) → parent_of m slot ≡ Some parent → rank parent < rank slot)
