-- Receive (seL4 manual, seL4_Recv): the message of the thread that waits first to send; if none does, the receiver waits. The thread
-- that the receiver's reply held until then is halted (confine's own).
use Rattle.{std.specs.Prelude.{ℕ, None, Ok, Option, Result, Some, is_ok}, base.specs.declared.{ids.ObjId.ObjId, refusal.Cause.Cause}}
use Rattle.machine.specs.declared.call.{Answer.Answer as answer, Made.{Made, TheVariants.{Blocked, Done}}}
use Rattle.machine.specs.declared.{slot_address.{Ends.Ends, SlotAddress.SlotAddress}, thread.Receiving.Receiving}
use Rattle.machine.specs.{declared.thread.{RunState.RunState as state, Sending.Sending}, Capabilities.{badged_of, can_read}}
use Rattle.machine.specs.{Machine.Machine, Refusing.◌>>=◌, Releasing.{with_blocked, with_holder_halted, with_named}}
use Rattle.machine.specs.Step.{Deliver.{arrival_of, first_at, message_of, sender_in, sent, with_arrival}, Find.{find, permitted}}
use Rattle.machine.specs.declared.object.ObjectKind.TheVariants as kind
use Rattle.machine.specs.declared.object.ReplyState.TheVariants as reply

-- the reply at an address, if one is given
abbrev pub find_named_reply : Machine → ObjId → Option ℕ → Result (Option ObjId) Cause
find_named_reply m caller None = Ok None
find_named_reply m caller (Some address) = do
  found ← find kind.Reply m caller address
  Ok (Some found.1.object)

-- the reply that is named, if one is, holds nobody
abbrev pub with_reply_ended : Machine → Option ObjId → Machine
with_reply_ended m None = m
with_reply_ended m (Some id) = with_holder_halted m id

-- a thread waits for a message, and the reply that it names waits with it
abbrev pub awaiting_message : Machine → ObjId → Receiving → Machine
awaiting_message m caller receiving =
    with_named (with_blocked m caller receiving.endpoint (state.Receiving receiving)) receiving.reply (reply.Waiting caller)

-- the message of a sender is received, or the receiver waits for one
abbrev pub received_or_waits : Machine → ObjId → Receiving → Option (ObjId × Sending) → Made × Machine
received_or_waits m caller receiving (Some (sender, sending)) =
    take (arrival_of m sender sending caller receiving.slot) where
      take : Result Ends Cause → Made × Machine
      take arrival = (
        Done (answer.Message (message_of sending (is_ok arrival))),
        sent (with_arrival m arrival) sender sending receiving.reply,
      )
received_or_waits m caller receiving None = (Blocked, awaiting_message m caller receiving)

-- the first waiting thread is looked up after the reply has let go of its thread
abbrev pub received : Machine → ObjId → Receiving → Made × Machine
received m caller receiving = received_or_waits m caller receiving (sender_in (first_at m receiving.endpoint))

unfoldable pub receive_of : Machine → ObjId → ℕ → Option ℕ → Option SlotAddress → Result (Made × Machine) Cause
receive_of m caller address named slot = do
  found ← find kind.Endpoint m caller address
  _ ← permitted (can_read (badged_of found.1.detail).rights)
  id ← find_named_reply m caller named
  Ok (received (with_reply_ended m id) caller (record { endpoint = found.1.object; reply = id; slot = slot }))
