-- Wait (seL4 manual, "Notifications"): answers the word and takes it; if there is none, the thread waits for one, after those that wait.
use Rattle.{std.specs.Prelude.{ℕ, None, Ok, Option, Result, Some}, base.specs.declared.{ids.ObjId.ObjId, refusal.Cause.Cause}}
use Rattle.machine.specs.declared.call.{Answer.Answer as answer, Made.{Made, TheVariants.{Blocked, Done}}}
use Rattle.machine.specs.{declared.thread.RunState.RunState as state, Capabilities.{badged_of, can_read}}
use Rattle.machine.specs.{Changes.with_pending, Machine.{Machine, object_of}, Refusing.◌>>=◌}
use Rattle.machine.specs.{Releasing.with_blocked, Step.{Find.{find, permitted}, Signal.pending_in}}
use Rattle.machine.specs.declared.object.ObjectKind.TheVariants as kind

-- the word is taken, or the caller waits
abbrev pub taken_or_awaited : Machine → ObjId → ObjId → Option ℕ → Made × Machine
taken_or_awaited m caller id (Some word) = (Done (answer.Word word), with_pending m id None)
taken_or_awaited m caller id None = (Blocked, with_blocked m caller id (state.Waiting id))

unfoldable pub wait_of : Machine → ObjId → ℕ → Result (Made × Machine) Cause
wait_of m caller address = do
  found ← find kind.Notification m caller address
  _ ← permitted (can_read (badged_of found.1.detail).rights)
  Ok (taken_or_awaited m caller found.1.object (pending_in (object_of m found.1.object)))
