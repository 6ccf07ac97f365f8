-- The delivery of a message (seL4 manual, "Endpoints"; at most one capability, copied with all its rights to an empty slot): the threads
-- that wait at an endpoint, the capability that arrives with the message, and how a call waits for its answer.
use Rattle.std.specs.Prelude.{ℕ, ◌&&◌, ◌||◌, Bool, Err, List, None, Ok, Option, Result, Some, if◌then◌else◌, is_ok, option_and_then}
use Rattle.{std.specs.Prelude.option_map, base.specs.declared.{ids.ObjId.ObjId, refusal.Cause.{Cause, Cause as cause}}}
use Rattle.machine.specs.declared.{cap.Badged.Badged, object.Object.{Object, Object as o}}
use Rattle.machine.specs.declared.slot_address.{Ends.Ends, SlotAddress.SlotAddress}
use Rattle.machine.specs.declared.thread.{Message.Message, Receiving.Receiving, RunState.RunState, Sending.Sending}
use Rattle.machine.specs.{Capabilities.{can_grant, can_grant_reply, can_write}, Changes.first_waiting, Machine.{Machine, cap_of, object_of}}
use Rattle.machine.specs.{Refusing.◌>>=◌, Releasing.{with_called, with_given, with_halted, with_ready}}
use Rattle.machine.specs.{Step.{Copy.copyable, Find.{find_cap, permitted}, Target.{target_of, vacant}}, Tree.with_copy}
use Rattle.machine.specs.declared.thread.RunState.TheVariants as state

-- the record of a message sent by a capability to an endpoint: the badge, and what the rights allow
abbrev pub sending_by : ObjId → Badged → Bool → List ℕ → Option ℕ → Sending
sending_by endpoint end is_call words capability =
    record {
      endpoint = endpoint;
      badge = end.badge;
      grant = can_write end.rights && can_grant end.rights;
      is_call = is_call;
      can_reply = can_grant end.rights || can_grant_reply end.rights;
      words = words;
      capability = capability;
    }

-- the run state of a thread
abbrev pub state_in : Option Object → Option RunState
state_in (Some (o.Tcb tcb)) = Some tcb.state
state_in _ = None

-- the thread that waits first at an endpoint, and the run state in which it waits
unfoldable pub first_at : Machine → ObjId → Option (ObjId × RunState)
first_at m id = option_and_then (λ thread. option_map (λ run. (thread, run)) (state_in (object_of m thread))) (first_waiting m id)

-- the thread that waits first, if it receives
abbrev pub receiver_in : Option (ObjId × RunState) → Option (ObjId × Receiving)
receiver_in (Some (thread, state.Receiving receiving)) = Some (thread, receiving)
receiver_in _ = None

-- the thread that waits first, if it sends
abbrev pub sender_in : Option (ObjId × RunState) → Option (ObjId × Sending)
sender_in (Some (thread, state.Sending sending)) = Some (thread, sending)
sender_in _ = None

abbrev pub named : {A : Type 0} → Option A → Result A Cause
named None = Err cause.InvalidArgument
named (Some address) = Ok address

-- the slots between which a message's capability travels, if one arrives: the sender's capability to the endpoint had the right
-- Grant when it was used, the sender has a capability at the address that it gave, which isn't untyped memory's, and the receiver gave a
-- slot, which is there and empty
unfoldable pub arrival_of : Machine → ObjId → Sending → ObjId → Option SlotAddress → Result Ends Cause
arrival_of m sender sending receiver slot = do
  _ ← permitted sending.grant
  from ← named sending.capability
  source ← find_cap m sender from
  _ ← copyable source.1.detail
  to ← named slot
  target ← target_of m receiver to
  _ ← vacant (cap_of m target)
  Ok (record { target = target; source = source.0; held = source.1 })

-- the capability that arrives is a copy with all its rights; nothing else changes where none arrives
abbrev pub with_arrival : Machine → Result Ends Cause → Machine
with_arrival m (Ok ends) = with_copy m ends.target ends.source ends.held ends.held.detail
with_arrival m (Err _) = m

-- a message as its receiver gets it
abbrev pub message_of : Sending → Bool → Message
message_of sending arrived = record { badge = sending.badge; words = sending.words; capability = arrived }

-- a message is given to a thread that waits to receive
unfoldable pub delivered : Machine → ObjId → Sending → ObjId → Receiving → Machine
delivered m sender sending receiver receiving =
    give (arrival_of m sender sending receiver receiving.slot) where
      give : Result Ends Cause → Machine
      give arrival = with_given (with_arrival m arrival) receiver (message_of sending (is_ok arrival))

-- the reply through which a call is answered: the one that the receiver named, if the caller's capability allows an answer
abbrev pub answer_through : Sending → Option ObjId → Option ObjId
answer_through sending reply = if sending.can_reply then reply else None

-- a thread whose call was received waits for its answer and lends nothing, or can't run if there is no reply
abbrev pub linked : Machine → ObjId → Option ObjId → Machine
linked m caller (Some reply) = with_called (with_halted m caller) caller (record { reply = reply; lent = None })
linked m caller None = with_halted m caller

-- a thread whose message was delivered: one that called waits for the answer, and one that sent can run
abbrev pub sent : Machine → ObjId → Sending → Option ObjId → Machine
sent m sender sending reply = if sending.is_call then linked m sender (answer_through sending reply) else with_ready m sender
