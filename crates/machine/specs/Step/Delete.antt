-- Delete (seL4 manual, seL4_CNode_Delete): a slot loses its capability, and what can't stay without it goes too.
use Rattle.std.specs.Prelude.{None, Ok, Option, Result, Some}
use Rattle.base.specs.declared.{ids.{ObjId.ObjId, SlotRef.SlotRef}, refusal.Cause.Cause}
use Rattle.machine.specs.declared.{call.{Answer.Answer as answer, Made.{Made, TheVariants.Done}}, cap.Cap.Cap}
use Rattle.machine.specs.{declared.slot_address.SlotAddress.SlotAddress, Machine.{Machine, cap_of, same_slot}, Refusing.◌>>=◌}
use Rattle.machine.specs.{Removal.removed, Step.Target.target_of}

-- an empty slot has nothing to lose
abbrev pub deleted : Machine → SlotRef → Option Cap → Machine
deleted m slot None = m
deleted m slot (Some _) = removed m (same_slot slot)

unfoldable pub delete_of : Machine → ObjId → SlotAddress → Result (Made × Machine) Cause
delete_of m caller address = do
  slot ← target_of m caller address
  Ok (Done answer.Nothing, deleted m slot (cap_of m slot))
