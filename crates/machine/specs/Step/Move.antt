-- Move (seL4 manual, seL4_CNode_Move): a capability goes to an empty slot, with its place in the derivation tree.
use Rattle.{std.specs.Prelude.{Ok, Result}, base.specs.declared.{ids.ObjId.ObjId, refusal.Cause.Cause}}
use Rattle.machine.specs.declared.{call.{Answer.Answer as answer, Made.{Made, TheVariants.Done}}, slot_address.SlotAddress.SlotAddress}
use Rattle.machine.specs.{Machine.Machine, Refusing.◌>>=◌, Step.Target.ends_of, Tree.with_moved}

unfoldable pub move_of : Machine → ObjId → SlotAddress → SlotAddress → Result (Made × Machine) Cause
move_of m caller to from = do
  ends ← ends_of m caller to from
  Ok (Done answer.Nothing, with_moved m ends.target ends.source ends.held)
