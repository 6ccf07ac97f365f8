-- The slot that a call names as its source below a CNode that was found (confine's own).
use Rattle.{std.specs.Prelude.{Ok, Result}, base.specs.declared.{ids.SlotRef.SlotRef, refusal.Cause.Cause}}
use Rattle.machine.specs.{declared.{cap.Cap.Cap, slot_address.SlotAddress.SlotAddress}, Lookup.Level}
use Rattle.{machine.specs.{Machine.{Machine, cap_of}, Refusing.◌>>=◌, Step.Target.filled}, cspace.specs.Below.target_below}

-- the slot that a call names as its source below a CNode, with the capability in it
unfoldable pub source_below : Machine → Level → SlotAddress → Result (SlotRef × Cap) Cause
source_below m level address = do
  slot ← target_below m level address.index address.depth
  held ← filled (cap_of m slot)
  Ok (slot, held)
