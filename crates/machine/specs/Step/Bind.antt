-- Bind and Unbind (seL4 manual, seL4_SchedContext_Bind, seL4_SchedContext_Unbind): a thread starts or stops to run on a scheduling
-- context; and a thread's context is handed to another thread.
use Rattle.std.specs.Prelude.{ℕ, Err, None, Ok, Option, Result, Some}
use Rattle.base.specs.declared.{ids.ObjId.ObjId, refusal.Cause.{Cause, Cause as cause}}
use Rattle.machine.specs.declared.{call.{Answer.Answer as answer, Made.{Made, TheVariants.Done}}, object.{Object.Object}}
use Rattle.machine.specs.{declared.{object.{Object.Object as o, ObjectKind.ObjectKind as kind}}, Changes.{with_context, with_tcb}}
use Rattle.machine.specs.{Machine.{Machine, object_of}, Refusing.◌>>=◌, Releasing.with_unbound, Step.Find.find}

-- the thread that runs on a scheduling context
abbrev pub thread_on : Option Object → Option ObjId
thread_on (Some (o.Context context)) = context.thread
thread_on _ = None

-- the scheduling context that a thread runs on
abbrev pub context_under : Option Object → Option ObjId
context_under (Some (o.Tcb tcb)) = tcb.context
context_under _ = None

-- a link that may be made: there is none yet
abbrev pub unlinked : Option ObjId → Result (Unit {0}) Cause
unlinked None = Ok tt
unlinked (Some _) = Err cause.IllegalOperation

-- a thread runs on a scheduling context
unfoldable pub with_bound : Machine → ObjId → ObjId → Machine
with_bound m id thread = by_contents (object_of m id) (object_of m thread) where
  by_contents : Option Object → Option Object → Machine
  by_contents (Some (o.Context context)) (Some (o.Tcb tcb)) =
      with_context (with_tcb m thread (record tcb { context = Some id })) id (record context { thread = Some thread })
  by_contents _ _ = m

-- the scheduling context that a thread runs on is unbound from it, and bound to another thread
unfoldable pub with_handed : Machine → ObjId → ObjId → Machine
with_handed m from to = by_context (context_under (object_of m from)) where
  by_context : Option ObjId → Machine
  by_context None = m
  by_context (Some id) = with_bound (with_unbound m from) id to

unfoldable pub bind_of : Machine → ObjId → ℕ → ℕ → Result (Made × Machine) Cause
bind_of m caller context address = do
  context ← find kind.Context m caller context
  found ← find kind.Tcb m caller address
  _ ← unlinked (thread_on (object_of m context.1.object))
  _ ← unlinked (context_under (object_of m found.1.object))
  Ok (Done answer.Nothing, with_bound m context.1.object found.1.object)

-- nothing runs on a scheduling context
abbrev pub without_thread : Machine → Option ObjId → Machine
without_thread m None = m
without_thread m (Some thread) = with_unbound m thread

unfoldable pub unbind_of : Machine → ObjId → ℕ → Result (Made × Machine) Cause
unbind_of m caller address = do
  found ← find kind.Context m caller address
  Ok (Done answer.Nothing, without_thread m (thread_on (object_of m found.1.object)))
