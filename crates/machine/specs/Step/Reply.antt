-- Reply (seL4 manual, "Reply objects"): the thread that has called through the reply gets the words and can run, and the reply is free;
-- if none has, nothing changes. The scheduling context that it lent to the thread that answers goes back to it.
use Rattle.std.specs.Prelude.{ℕ, ◌&&◌, Bool, List, None, Ok, Option, Result, Some, false, if◌then◌else◌}
use Rattle.base.specs.declared.{ids.ObjId.ObjId, refusal.Cause.Cause}
use Rattle.machine.specs.declared.call.Answer.TheVariants as answer
use Rattle.machine.specs.declared.{call.Made.{Made, TheVariants.Done}, object.{Object.{Object, Object as o}, ReplyState.ReplyState}}
use Rattle.machine.specs.declared.{object.ObjectKind.ObjectKind as kind, thread.{Lent.Lent, RunState.{RunState, RunState as state}}}
use Rattle.machine.specs.{Machine.{Machine, object_of, same_id}, Refusing.◌>>=◌, Releasing.with_given, Step.Bind.context_under}
use Rattle.machine.specs.Step.{Bind.with_handed, Find.find}
use Rattle.machine.specs.declared.object.ReplyState.TheVariants as reply

-- the thread that has called through a reply
abbrev pub caller_in : Option Object → Option ObjId
caller_in (Some (o.Reply holding)) = by_state holding.state where
  by_state : ReplyState → Option ObjId
  by_state (reply.Called thread) = Some thread
  by_state _ = None
caller_in _ = None

-- what a thread lent as it called, while it waits for its answer
abbrev pub loan_in : Option Object → Option Lent
loan_in (Some (o.Tcb tcb)) = by_state tcb.state where
  by_state : RunState → Option Lent
  by_state (state.Called calling) = calling.lent
  by_state _ = None
loan_in _ = None

-- whether a thread that runs on a context has it by a loan from a thread that has none
abbrev pub has_on_loan : ObjId → Option ObjId → Option Lent → Option ObjId → Bool
has_on_loan borrower (Some context) (Some lent) None = same_id lent.borrower borrower && same_id lent.context context
has_on_loan borrower _ _ _ = false

-- a thread that answers gives its context back if the called thread lent it to it, and has none now
abbrev pub gives_back : Machine → ObjId → ObjId → Bool
gives_back m invoker called =
    has_on_loan invoker (context_under (object_of m invoker)) (loan_in (object_of m called)) (context_under (object_of m called))

-- a context that is given back goes over to the called thread
abbrev pub with_returned : Machine → ObjId → ObjId → Machine
with_returned m invoker called = if gives_back m invoker called then with_handed m invoker called else m

-- a thread that has called is answered
abbrev pub answered : Machine → ObjId → Option ObjId → List ℕ → Machine
answered m invoker None words = m
answered m invoker (Some called) words =
    with_given (with_returned m invoker called) called (record { badge = 0; words = words; capability = false })

unfoldable pub reply_of : Machine → ObjId → ℕ → List ℕ → Result (Made × Machine) Cause
reply_of m caller address words = do
  found ← find kind.Reply m caller address
  Ok (Done answer.Nothing, answered m caller (caller_in (object_of m found.1.object)) words)
