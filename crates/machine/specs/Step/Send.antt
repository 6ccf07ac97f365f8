-- Send and Call (seL4 manual, seL4_Send and seL4_Call): the message goes to the thread that waits first to receive; if none does, the
-- sender waits. A call waits for its answer, and lends its scheduling context to a receiver that has none ("Scheduling Contexts",
-- passive servers).
use Rattle.{std.specs.Prelude.{ℕ, Bool, List, None, Ok, Option, Result, Some}, base.specs.declared.{ids.ObjId.ObjId, refusal.Cause.Cause}}
use Rattle.machine.specs.declared.call.Made.{Made, TheVariants.{Blocked, Done}}
use Rattle.machine.specs.declared.thread.{Lent.Lent, Receiving.Receiving, RunState.RunState as state, Sending.Sending}
use Rattle.machine.specs.{Capabilities.{badged_of, can_write}, Machine.{Machine, object_of}, Refusing.◌>>=◌}
use Rattle.machine.specs.{Releasing.{with_blocked, with_called, with_halted}, Step.Bind.{context_under, with_handed}}
use Rattle.machine.specs.Step.{Deliver.{answer_through, delivered, first_at, receiver_in, sending_by}, Find.{find, permitted}}
use Rattle.machine.specs.declared.call.Answer.TheVariants as answer
use Rattle.machine.specs.declared.object.ObjectKind.TheVariants as kind

-- a message goes to a receiver, or its sender waits
abbrev pub sent_or_waits : Machine → ObjId → Sending → Option (ObjId × Receiving) → Made × Machine
sent_or_waits m caller sending (Some (receiver, receiving)) =
    (Done answer.Nothing, delivered m caller sending receiver receiving)
sent_or_waits m caller sending None = (Blocked, with_blocked m caller sending.endpoint (state.Sending sending))

unfoldable pub send_of : Machine → ObjId → ℕ → List ℕ → Option ℕ → Result (Made × Machine) Cause
send_of m caller address words capability = do
  found ← find kind.Endpoint m caller address
  _ ← permitted (can_write (badged_of found.1.detail).rights)
  Ok
      (sent_or_waits m caller (sending_by found.1.object (badged_of found.1.detail) Bool.false words capability)
      (receiver_in (first_at m found.1.object)))

-- the loan of a thread's context to a borrower that has none
abbrev pub loan : Option ObjId → Option ObjId → ObjId → Option Lent
loan (Some context) None borrower = Some (record { context = context; borrower = borrower })
loan _ _ borrower = None

-- what a caller lends to a receiver: the scheduling context that it runs on, if the receiver has none
abbrev pub loan_made : Machine → ObjId → ObjId → Option Lent
loan_made m caller receiver = loan (context_under (object_of m caller)) (context_under (object_of m receiver)) receiver

-- the context that is lent, if any, goes over from the caller to its borrower
abbrev pub with_lent : Machine → ObjId → Option Lent → Machine
with_lent m caller None = m
with_lent m caller (Some lent) = with_handed m caller lent.borrower

-- a thread whose call was delivered to a receiver waits for its answer, and lends what it runs on meanwhile; or it can't run
abbrev pub called_through : Machine → ObjId → ObjId → Option ObjId → Machine
called_through m caller receiver None = with_halted m caller
called_through m caller receiver (Some reply) =
    with_lent (with_called (with_halted m caller) caller (record { reply = reply; lent = loan_made m caller receiver })) caller
    (loan_made m caller receiver)

-- a call goes to a receiver, and waits for the answer through the receiver's reply; or it waits for a receiver
abbrev pub called_or_waits : Machine → ObjId → Sending → Option (ObjId × Receiving) → Machine
called_or_waits m caller sending (Some (receiver, receiving)) =
    called_through (delivered m caller sending receiver receiving) caller receiver (answer_through sending receiving.reply)
called_or_waits m caller sending None = with_blocked m caller sending.endpoint (state.Sending sending)

unfoldable pub endpoint_call_of : Machine → ObjId → ℕ → List ℕ → Option ℕ → Result (Made × Machine) Cause
endpoint_call_of m caller address words capability = do
  found ← find kind.Endpoint m caller address
  _ ← permitted (can_write (badged_of found.1.detail).rights)
  Ok (
    Blocked,
    called_or_waits m caller (sending_by found.1.object (badged_of found.1.detail) Bool.true words capability)
        (receiver_in (first_at m found.1.object)),
  )
