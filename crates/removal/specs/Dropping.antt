-- The end of a removal: objects that have lost their last capability are removed, once nothing holds to them (seL4 manual, "Deletion,
-- Revocation, and Recycling").
use Rattle.std.specs.{List.fold, Prelude.{◌≡◌, List, None}}
use Rattle.base.specs.declared.ids.{ObjId.ObjId, SlotRef.SlotRef}
use Rattle.machine.specs.{Changes.{first_waiting, with_none_going, without_object}, Counts.caps_to, Machine.{Machine, cap_of}, Tree.IsAlone}
use Rattle.objects.specs.Waiting.{WaitsNowhere}

-- the machine without some objects, one after another
abbrev pub without_objects : Machine → List ObjId → Machine
without_objects m ids = fold without_object m ids

-- nothing holds to an object: no capability is for it, its slots are empty and in no pair of the derivation tree, nobody waits at it,
-- and it waits nowhere
pub record IsCutOff (m : Machine) (id : ObjId) : Type 0 where
  pub unheld : caps_to m id ≡ 0
  pub hollow : (slot : SlotRef) → slot.holder ≡ id → cap_of m slot ≡ None
  pub alone : (slot : SlotRef) → slot.holder ≡ id → IsAlone m slot
  pub deserted : first_waiting m id ≡ None
  pub free : WaitsNowhere m id

-- nothing is going, and the objects that were going are removed
abbrev pub dropped : Machine → Machine
dropped m = with_none_going (without_objects m m.going)
