-- The machine after an empty slot was filled, and after a capability has moved, slot by slot.
use Rattle.std.{specs.Prelude.{None, Option, Some, if◌then◌else◌, option_map}, proofs.Common.◌≡◌}
use Rattle.base.specs.declared.ids.{ObjId.ObjId, SlotRef.SlotRef}
use Rattle.machine.specs.{declared.cap.Cap.Cap, Machine.{Machine, cap_of, object_of, parent_of, queue_of, same_slot, words_of}}
use Rattle.machine.specs.Tree.{exchange}

-- nothing but slots differs
pub record SameObjects (m next : Machine) : Type 0 where
  pub objects : (id : ObjId) → object_of next id ≡ object_of m id
  pub queues : (id : ObjId) → queue_of next id ≡ queue_of m id
  pub words : (id : ObjId) → words_of next id ≡ words_of m id
  pub number : next.next ≡ m.next
  pub going : next.going ≡ m.going

-- an empty slot gets a capability with a parent, or with none
pub record Fills (m : Machine) (slot : SlotRef) (held : Cap) (parent : Option SlotRef) (next : Machine) : Type 0 where
  pub objects : SameObjects m next
  pub caps : (q : SlotRef) → cap_of next q ≡ (if same_slot q slot then Some held else cap_of m q)
  pub parents : (q : SlotRef) → parent_of next q ≡ (if same_slot q slot then parent else parent_of m q)

-- a capability goes from one slot to an empty one, with its place in the tree
pub record Moves (m : Machine) (source target : SlotRef) (held : Cap) (next : Machine) : Type 0 where
  pub objects : SameObjects m next
  pub caps :
      (q : SlotRef) → cap_of next q ≡ (if same_slot q target then Some held else if same_slot q source then None else cap_of m q)
  pub parents :
      (q : SlotRef) → parent_of next q ≡ option_map (exchange source target) (parent_of m (exchange source target q))
