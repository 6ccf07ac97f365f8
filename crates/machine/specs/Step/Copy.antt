-- Copy (seL4 manual, seL4_CNode_Copy): an empty slot gets a copy of a capability, with those of its rights that are in a mask.
use Rattle.std.specs.{Int.RustNames.bit_and, Prelude.{Err, Ok, Result}}
use Rattle.base.specs.declared.{ids.ObjId.ObjId, refusal.Cause.{Cause, Cause as cause}, rights.Rights.Rights}
use Rattle.machine.specs.declared.{call.{Answer.Answer as answer, Made.{Made, TheVariants.Done}}, cap.Detail.{Detail, Detail as d}}
use Rattle.machine.specs.{declared.slot_address.SlotAddress.SlotAddress, Machine.Machine, Refusing.◌>>=◌, Step.Target.ends_of}
use Rattle.machine.specs.Tree.{with_copy}

-- untyped memory isn't copied
abbrev pub copyable : Detail → Result (Unit {0}) Cause
copyable d.Untyped = Err cause.IllegalOperation
copyable _ = Ok tt

-- the rights that are in both
abbrev pub both : Rights → Rights → Rights
both one other = record { 0 = bit_and one.0 other.0 }

-- the rights that are in the mask alone; a kind without rights stays as it is
abbrev pub masked : Rights → Detail → Detail
masked mask (d.Endpoint end) = d.Endpoint (record end { rights = both end.rights mask })
masked mask (d.Notification end) = d.Notification (record end { rights = both end.rights mask })
masked mask (d.Frame rights) = d.Frame (both rights mask)
masked mask detail = detail

unfoldable pub copy_of : Machine → ObjId → SlotAddress → SlotAddress → Rights → Result (Made × Machine) Cause
copy_of m caller to from mask = do
  ends ← ends_of m caller to from
  _ ← copyable ends.held.detail
  Ok (Done answer.Nothing, with_copy m ends.target ends.source ends.held (masked mask ends.held.detail))
