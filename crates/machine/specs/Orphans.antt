-- The derivation tree without slots that leave it: their children come under the nearest ancestor that stays (seL4 manual, "Capability
-- Derivation Tree"; the children's new parent is confine's own).
use Rattle.std.specs.Prelude.{[], ◌∷◌, ◌≡◌, Bool, List, None, Option, Some, false, if◌then◌else◌, option_and_then, true}
use Rattle.{base.specs.declared.ids.SlotRef.SlotRef, machine.specs.Machine.same_slot}

-- a child's parent as one slot leaves: what takes that slot's place, if anything does
abbrev pub past : SlotRef → Option SlotRef → SlotRef → Option SlotRef
past slot above parent = if same_slot parent slot then above else Some parent

-- the parents of a tree that one slot has left: it has none, and its children have its parent
abbrev pub without_node : (SlotRef → Option SlotRef) → SlotRef → SlotRef → Option SlotRef
without_node parent node slot = if same_slot slot node then None else option_and_then (past node (parent node)) (parent slot)

-- the parents of a tree that slots have left one by one, the last first
unfoldable pub without_nodes : (SlotRef → Option SlotRef) → List SlotRef → SlotRef → Option SlotRef
without_nodes parent [] = parent
without_nodes parent (node ∷ nodes) = without_node (without_nodes parent nodes) node

-- the first slot, from this one upwards, that isn't gone
pub data Nearest (parent : SlotRef → Option SlotRef) (gone : SlotRef → Bool) : Option SlotRef → Option SlotRef → Type 0 where
  no_ancestor : Nearest parent gone None None
  survives : {slot : SlotRef} → gone slot ≡ false → Nearest parent gone (Some slot) (Some slot)
  climbs : {slot : SlotRef} {to : Option SlotRef} → gone slot ≡ true → Nearest parent gone (parent slot) to → Nearest parent gone (Some slot) to
