-- Poll (seL4 manual, "Notifications"): answers the word and takes it, or answers 0 if there is none.
use Rattle.{std.specs.Prelude.{ℕ, None, Ok, Result, unwrap_or}, base.specs.declared.{ids.ObjId.ObjId, refusal.Cause.Cause}}
use Rattle.machine.specs.declared.{call.{Answer.Answer as answer, Made.{Made, TheVariants.Done}}, object.ObjectKind.ObjectKind as kind}
use Rattle.machine.specs.{Capabilities.{badged_of, can_read}, Changes.with_pending, Machine.{Machine, object_of}}
use Rattle.machine.specs.{Refusing.◌>>=◌, Step.{Find.{find, permitted}, Signal.pending_in}}

unfoldable pub poll_of : Machine → ObjId → ℕ → Result (Made × Machine) Cause
poll_of m caller address = do
  found ← find kind.Notification m caller address
  _ ← permitted (can_read (badged_of found.1.detail).rights)
  Ok (Done (answer.Word (unwrap_or (pending_in (object_of m found.1.object)) 0)), with_pending m found.1.object None)
