-- Changes that link threads, queues and replies, or end these links: a thread blocks at an object or calls through a reply, leaves its
-- queue and its reply, and is ready, halted or aborted; and a thread and its context are unbound (seL4 manual, "Threads and Execution",
-- "Endpoints", "Notifications" and "Scheduling Contexts").
use Rattle.std.specs.Prelude.{◌≡◌, Bool, Contains, List, None, Option, Some, if◌then◌else◌}
use Rattle.base.specs.declared.ids.ObjId.{ObjId}
use Rattle.machine.specs.declared.{object.{Object.{Object, Object as o}, ReplyState.ReplyState}, thread.{Calling.Calling, Message.Message}}
use Rattle.machine.specs.declared.object.ReplyState.TheVariants as reply
use Rattle.machine.specs.declared.thread.Inbox.TheVariants as inbox
use Rattle.machine.specs.{declared.thread.{RunState.RunState, Tcb.Tcb}, Changes.{with_context, with_reply, with_tcb, with_waiting}}
use Rattle.machine.specs.declared.thread.RunState.TheVariants as state
use Rattle.machine.specs.{Changes.without_waiting, Finalising.{aborted, halted}, Machine.{Machine, object_of, queue_of}}
use Rattle.machine.specs.WellFormed.{IsThread, WaitsAt}

unfoldable pub with_holding : Machine → ObjId → ReplyState → Machine
with_holding m id holds = by_content (object_of m id) where
  by_content : Option Object → Machine
  by_content (Some (o.Reply holding)) = with_reply m id (record holding { state = holds })
  by_content _ = m

-- the reply that a receiver named, if any, gets a state
abbrev pub with_named : Machine → Option ObjId → ReplyState → Machine
with_named m None holds = m
with_named m (Some id) holds = with_holding m id holds

-- a reply holds nobody
abbrev pub with_free : Machine → ObjId → Machine
with_free m id = with_holding m id reply.Free

-- a thread that is blocked in a run state is in no queue and is held by no reply
abbrev pub unblocked : Machine → ObjId → RunState → Machine
unblocked m thread (state.Sending sending) = without_waiting m sending.endpoint thread
unblocked m thread (state.Receiving receiving) = with_named (without_waiting m receiving.endpoint thread) receiving.reply reply.Free
unblocked m thread (state.Waiting notification) = without_waiting m notification thread
unblocked m thread (state.Called calling) = with_free m calling.reply
unblocked m thread _ = m

-- a thread leaves its queue and its reply, and changes
unfoldable pub with_released : Machine → ObjId → (Tcb → Tcb) → Machine
with_released m thread change = by_content (object_of m thread) where
  by_content : Option Object → Machine
  by_content (Some (o.Tcb tcb)) = with_tcb (unblocked m thread tcb.state) thread (change tcb)
  by_content _ = m

-- it is released, and can't run
abbrev pub with_halted : Machine → ObjId → Machine
with_halted m thread = with_released m thread halted

-- it is released, can run, and learns that what it waited for went away
abbrev pub with_aborted : Machine → ObjId → Machine
with_aborted m thread = with_released m thread aborted

-- it can run
abbrev pub ready : Tcb → Tcb
ready tcb = record tcb { state = state.Ready }

abbrev pub with_ready : Machine → ObjId → Machine
with_ready m thread = with_released m thread ready

-- it can run, and has a message
abbrev pub given : Message → Tcb → Tcb
given message tcb = record tcb { state = state.Ready; inbox = inbox.Message message }

abbrev pub with_given : Machine → ObjId → Message → Machine
with_given m thread message = with_released m thread (given message)

-- it can't run, and has nothing to fetch
abbrev pub suspended : Tcb → Tcb
suspended tcb = record tcb { state = state.Inactive; inbox = inbox.Empty }

abbrev pub with_suspended : Machine → ObjId → Machine
with_suspended m thread = with_released m thread suspended

-- the thread that a reply holds is halted, which frees the reply
unfoldable pub with_holder_halted : Machine → ObjId → Machine
with_holder_halted m id = by_content (object_of m id) where
  by_state : ReplyState → Machine
  by_state (reply.Waiting thread) = with_halted m thread
  by_state (reply.Called thread) = with_halted m thread
  by_state reply.Free = m

  by_content : Option Object → Machine
  by_content (Some (o.Reply holding)) = by_state holding.state
  by_content _ = m

-- a thread waits at an object in a run state, after those that wait there
unfoldable pub with_blocked : Machine → ObjId → ObjId → RunState → Machine
with_blocked m thread id run = by_content (object_of m thread) where
  by_content : Option Object → Machine
  by_content (Some (o.Tcb tcb)) = with_waiting (with_tcb m thread (record tcb { state = run })) id thread
  by_content _ = m

-- a thread waits for the answer to its call, through a reply that holds it
unfoldable pub with_called : Machine → ObjId → Calling → Machine
with_called m thread calling = by_content (object_of m thread) where
  by_content : Option Object → Machine
  by_content (Some (o.Tcb tcb)) =
      with_holding (with_tcb m thread (record tcb { state = state.Called calling })) calling.reply (reply.Called thread)
  by_content _ = m

-- a scheduling context has no thread
unfoldable pub with_idle_context : Machine → ObjId → Machine
with_idle_context m id = by_content (object_of m id) where
  by_content : Option Object → Machine
  by_content (Some (o.Context context)) = with_context m id (record context { thread = None })
  by_content _ = m

-- a thread has no context, and its context no thread
unfoldable pub with_unbound : Machine → ObjId → Machine
with_unbound m thread = by_content (object_of m thread) where
  cut : Tcb → Option ObjId → Machine
  cut tcb None = m
  cut tcb (Some id) = with_idle_context (with_tcb m thread (record tcb { context = None })) id

  by_content : Option Object → Machine
  by_content (Some (o.Tcb tcb)) = cut tcb tcb.context
  by_content _ = m

-- a reply is free if the thread that it held left
abbrev pub reply_by : (ObjId → Bool) → ReplyState → ReplyState
reply_by left (reply.Waiting thread) = if left thread then reply.Free else reply.Waiting thread
reply_by left (reply.Called thread) = if left thread then reply.Free else reply.Called thread
reply_by left reply.Free = reply.Free

-- words, capabilities, the derivation tree, the next number and what is going are the same
pub record SameRest (old now : Machine) : Type 0 where
  pub words : now.words ≡ old.words
  pub caps : now.caps ≡ old.caps
  pub parents : now.parents ≡ old.parents
  pub next : now.next ≡ old.next
  pub going : now.going ≡ old.going

-- a thread is in the queue at which its run state waits
abbrev pub IsInItsQueue : Machine → ObjId → Type 0
IsInItsQueue m thread =
    (tcb : Tcb) (id : ObjId) → IsThread m thread tcb → WaitsAt tcb.state id
    → (threads : List ObjId) × (queue_of m id ≡ Some threads) × Contains threads thread
