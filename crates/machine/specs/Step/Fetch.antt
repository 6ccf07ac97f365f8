-- Fetch (confine's own): the caller takes what it was given and has not fetched yet.
use Rattle.{std.specs.Prelude.{Err, Ok, Option, Result, Some}, base.specs.declared.{ids.ObjId.ObjId, refusal.Cause.{Cause, Cause as cause}}}
use Rattle.machine.specs.declared.call.{Answer.{Answer, Answer as answer}, Made.{Made, TheVariants.Done}}
use Rattle.machine.specs.declared.{object.Object.{Object, Object as o}, thread.Inbox.Inbox}
use Rattle.machine.specs.{Changes.with_tcb, Machine.{Machine, object_of}, Refusing.◌>>=◌}
use Rattle.machine.specs.declared.thread.Inbox.TheVariants as inbox

-- what an inbox answers
abbrev pub fetched : Inbox → Result Answer Cause
fetched inbox.Empty = Err cause.IllegalOperation
fetched (inbox.Message message) = Ok (answer.Message message)
fetched (inbox.Word word) = Ok (answer.Word word)
fetched inbox.Aborted = Ok answer.Aborted

abbrev pub fetched_in : Option Object → Result Answer Cause
fetched_in (Some (o.Tcb tcb)) = fetched tcb.inbox
fetched_in _ = Err cause.NoSuchThread

unfoldable pub emptied : Machine → ObjId → Machine
emptied m thread = by_content (object_of m thread) where
  by_content : Option Object → Machine
  by_content (Some (o.Tcb tcb)) = with_tcb m thread (record tcb { inbox = inbox.Empty })
  by_content _ = m

unfoldable pub fetch_of : Machine → ObjId → Result (Made × Machine) Cause
fetch_of m caller = do
  given ← fetched_in (object_of m caller)
  Ok (Done given, emptied m caller)
