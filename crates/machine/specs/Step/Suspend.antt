-- Suspend and Resume (seL4 manual, seL4_TCB_Suspend, seL4_TCB_Resume): a thread stops, or goes on. One that is blocked and goes on is
-- aborted (confine's own).
use Rattle.{std.specs.Prelude.{ℕ, Ok, Option, Result, Some}, base.specs.declared.{ids.ObjId.ObjId, refusal.Cause.Cause}}
use Rattle.machine.specs.declared.{call.{Answer.Answer as answer, Made.{Made, TheVariants.Done}}, object.Object.{Object, Object as o}}
use Rattle.machine.specs.{declared.{object.ObjectKind.ObjectKind as kind, thread.RunState.{RunState, RunState as state}}, Machine.Machine}
use Rattle.machine.specs.{Machine.object_of, Refusing.◌>>=◌, Releasing.{with_aborted, with_ready, with_suspended}, Step.Find.find}

unfoldable pub suspend_of : Machine → ObjId → ℕ → Result (Made × Machine) Cause
suspend_of m caller address = do
  found ← find kind.Tcb m caller address
  Ok (Done answer.Nothing, with_suspended m found.1.object)

-- a thread that is inactive can run, one that is blocked is aborted, and one that is ready stays so
unfoldable pub with_resumed : Machine → ObjId → Machine
with_resumed m thread = by_content (object_of m thread) where
  by_state : RunState → Machine
  by_state state.Ready = m
  by_state state.Inactive = with_ready m thread
  by_state _ = with_aborted m thread

  by_content : Option Object → Machine
  by_content (Some (o.Tcb tcb)) = by_state tcb.state
  by_content _ = m

unfoldable pub resume_of : Machine → ObjId → ℕ → Result (Made × Machine) Cause
resume_of m caller address = do
  found ← find kind.Tcb m caller address
  Ok (Done answer.Nothing, with_resumed m found.1.object)
