-- Revoke (seL4 manual, seL4_CNode_Revoke): all that descends from a slot's capability is removed at once, and what can't stay without it
-- goes too. The capability itself stays, unless the slot is one of those that go.
use Rattle.std.specs.Prelude.{None, Ok, Option, Result, Some}
use Rattle.base.specs.declared.{ids.{ObjId.ObjId, SlotRef.SlotRef}, refusal.Cause.Cause}
use Rattle.machine.specs.declared.{call.{Answer.Answer as answer, Made.{Made, TheVariants.Done}}, cap.Cap.Cap}
use Rattle.machine.specs.{declared.slot_address.SlotAddress.SlotAddress, Below.is_below, Machine.{Machine, cap_of}, Refusing.◌>>=◌}
use Rattle.machine.specs.{Removal.removed, Step.Target.target_of}

-- nothing descends from an empty slot
abbrev pub revoked : Machine → SlotRef → Option Cap → Machine
revoked m slot None = m
revoked m slot (Some _) = removed m (is_below m slot)

unfoldable pub revoke_of : Machine → ObjId → SlotAddress → Result (Made × Machine) Cause
revoke_of m caller address = do
  slot ← target_of m caller address
  Ok (Done answer.Nothing, revoked m slot (cap_of m slot))
