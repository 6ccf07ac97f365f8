-- Mint (seL4 manual, seL4_CNode_Mint): a copy gets a badge or a guard.
use Rattle.std.specs.Prelude.{ℕ, ◌%◌, ◌+◌, ◌==◌, ◌^◌, Err, Ok, Option, Result, Some, if◌then◌else◌, nat_le}
use Rattle.base.specs.declared.{ids.ObjId.ObjId, refusal.Cause.{Cause, Cause as cause}, rights.Rights.Rights}
use Rattle.machine.specs.declared.{call.{Answer.Answer as answer, CapData.CapData, Made.{Made, TheVariants.Done}}, cap.Badged.Badged}
use Rattle.machine.specs.declared.call.CapData.TheVariants as given
use Rattle.machine.specs.declared.{cap.Detail.{Detail, Detail as d}, object.Object.{Object, Object as o}}
use Rattle.machine.specs.{declared.slot_address.SlotAddress.SlotAddress, Machine.{Machine, object_of}, Refusing.◌>>=◌, Step.Copy.copyable}
use Rattle.machine.specs.{Step.{Copy.masked, Target.ends_of}, Tree.with_copy}

-- a badge is given once: to a capability with badge 0, which is none
abbrev pub badged : (Badged → Detail) → ℕ → Badged → Result Detail Cause
badged detail badge end =
    if end.badge == 0 then Ok (detail (record end { badge = badge })) else Err cause.IllegalOperation

-- a guard: the low `size` bits of the value, which with the CNode's radix are at most the 64 of an address
abbrev pub guarded : ℕ → ℕ → Option Object → Result Detail Cause
guarded size value (Some (o.CNode node)) =
    if nat_le (size + node.radix) 64
    then Ok (d.CNode (record { size = size; value = value % 2 ^ size })) else Err cause.IllegalOperation
guarded size value _ = Err cause.IllegalOperation

-- the detail of a capability with a badge or a guard; only endpoints and notifications have badges, and CNodes guards
abbrev pub minted : Option Object → CapData → Detail → Result Detail Cause
minted object (given.Badge badge) (d.Endpoint end) = badged d.Endpoint badge end
minted object (given.Badge badge) (d.Notification end) = badged d.Notification badge end
minted object (given.Guard size value) (d.CNode _) = guarded size value object
minted object _ detail = Err cause.IllegalOperation

unfoldable pub mint_of : Machine → ObjId → SlotAddress → SlotAddress → Rights → CapData → Result (Made × Machine) Cause
mint_of m caller to from mask given = do
  ends ← ends_of m caller to from
  _ ← copyable ends.held.detail
  detail ← minted (object_of m ends.held.object) given (masked mask ends.held.detail)
  Ok (Done answer.Nothing, with_copy m ends.target ends.source ends.held detail)
