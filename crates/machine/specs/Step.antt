-- The kernel step: how an event ends, and the machine after it (seL4 manual, "Kernel Services and Objects"; the order of the
-- conditions is confine's own). A refusal leaves the machine as it was.
use Rattle.std.specs.Prelude.{ℕ, ◌==◌, ◌≡◌, ◌⊎◌, Bool, Err, None, Ok, Option, Result, Some, if◌then◌else◌}
use Rattle.base.specs.{declared.{ids.ObjId.ObjId, refusal.{Cause.Cause, Refusal.Refusal}}, Refusals.{IsOfCondition, out_of_memory}}
use Rattle.base.specs.declared.refusal.Cause.TheVariants as cause
use Rattle.base.specs.Refusals.{refusal_of}
use Rattle.machine.specs.declared.{call.{Call.Call, Event.Event, Made.Made, Outcome.{Outcome, TheVariants.Refused}}, object.Object.Object}
use Rattle.machine.specs.declared.call.Call.TheVariants as call
use Rattle.machine.specs.declared.{object.{Object.Object as o, Share.Share}, thread.{RunState.{RunState, RunState as state}, Tcb.Tcb}}
use Rattle.machine.specs.{Machine.{Machine, object_of}, Outcomes.outcome_of, Refusing.◌>>=◌, Step.Bind.{bind_of, unbind_of}}
use Rattle.machine.specs.Step.{Configure.configure_of, Copy.copy_of, Delete.delete_of, Fetch.fetch_of, Mint.mint_of, Move.move_of}
use Rattle.machine.specs.Step.{Poll.poll_of, Receive.receive_of, Reply.reply_of, Retype.retype_of, Revoke.revoke_of, Send.endpoint_call_of}
use Rattle.machine.specs.Step.{Send.send_of, Signal.signal_of, Space.{clear_space_of, set_space_of}, Suspend.{resume_of, suspend_of}}
use Rattle.machine.specs.Step.{Wait.wait_of, Words.{read_of, write_of}}
pub mod Find
pub mod Signal
pub mod Poll
pub mod Wait
pub mod Target
pub mod Copy
pub mod Mint
pub mod Move
pub mod Delete
pub mod Revoke
pub mod Retype
pub mod Deliver
pub mod Send
pub mod Receive
pub mod Reply
pub mod Fetch
pub mod Words
pub mod Suspend
pub mod Space
pub mod Configure
pub mod Bind

-- the core, budget and period of an object, if it is a configured context
abbrev pub share_in : Option Object → Option Share
share_in (Some (o.Context context)) = context.share
share_in _ = None

-- the share of a core that a thread runs on
abbrev pub share_of : Machine → Option ObjId → Option Share
share_of m None = None
share_of m (Some context) = share_in (object_of m context)

abbrev pub is_ready : RunState → Bool
is_ready state.Ready = Bool.true
is_ready _ = Bool.false

-- the share of a thread that can run
abbrev pub running_share : Machine → Tcb → Result Share Cause
running_share m thread = if is_ready thread.state then configured (share_of m thread.context) else Err cause.NotRunnable where
  configured : Option Share → Result Share Cause
  configured None = Err cause.NotRunnable
  configured (Some share) = Ok share

abbrev pub thread_in : Option Object → Result Tcb Cause
thread_in (Some (o.Tcb thread)) = Ok thread
thread_in _ = Err cause.NoSuchThread

-- a thread may make a call if it is there, is ready, and runs on a context that is configured for the event's core
unfoldable pub admitted : Machine → ℕ → ObjId → Result Share Cause
admitted m core caller = do
  thread ← thread_in (object_of m caller)
  share ← running_share m thread
  if share.core == core then Ok share else Err cause.WrongCore

-- the result of a call and the machine after it, once its thread may make it
abbrev pub call_of : Machine → ObjId → Call → Result (Made × Machine) Cause
call_of m caller (call.Signal address) = signal_of m caller address
call_of m caller (call.Poll address) = poll_of m caller address
call_of m caller (call.Wait address) = wait_of m caller address
call_of m caller (call.Send address words capability) = send_of m caller address words capability
call_of m caller (call.Call address words capability) = endpoint_call_of m caller address words capability
call_of m caller (call.Receive address reply slot) = receive_of m caller address reply slot
call_of m caller (call.Reply address words) = reply_of m caller address words
call_of m caller call.Fetch = fetch_of m caller
call_of m caller (call.Copy to from rights) = copy_of m caller to from rights
call_of m caller (call.Mint to from rights given) = mint_of m caller to from rights given
call_of m caller (call.Move to from) = move_of m caller to from
call_of m caller (call.Delete slot) = delete_of m caller slot
call_of m caller (call.Revoke slot) = revoke_of m caller slot
call_of m caller (call.Retype untyped kind bits to offset count) = retype_of m caller untyped kind bits to offset count
call_of m caller (call.Read address index) = read_of m caller address index
call_of m caller (call.Write address index word) = write_of m caller address index word
call_of m caller (call.SetSpace thread space) = set_space_of m caller thread space
call_of m caller (call.ClearSpace thread) = clear_space_of m caller thread
call_of m caller (call.Suspend thread) = suspend_of m caller thread
call_of m caller (call.Resume thread) = resume_of m caller thread
call_of m caller (call.Configure control context budget period) = configure_of m caller control context budget period
call_of m caller (call.Bind context thread) = bind_of m caller context thread
call_of m caller (call.Unbind context) = unbind_of m caller context

-- the result of an event: its thread is admitted, and then makes its call
unfoldable pub made_by : Machine → Event → Result (Made × Machine) Cause
made_by m event = do
  _ ← admitted m event.core event.thread
  call_of m event.thread event.call

-- a refusal leaves the machine as it was
abbrev pub settled : Machine → Result (Made × Machine) Cause → Outcome × Machine
settled m (Ok made) = (outcome_of made.0, made.1)
settled m (Err cause) = (Refused (refusal_of cause), m)

-- how an event ends if there is memory, and the machine after it
unfoldable pub step_of : Machine → Event → Outcome × Machine
step_of m event = settled m (made_by m event)

-- the calls by which the caller may wait, or that empty its inbox
abbrev pub ChangesCaller : Call → Type 0
ChangesCaller (call.Wait _) = Unit {0}
ChangesCaller (call.Send _ _ _) = Unit {0}
ChangesCaller (call.Call _ _ _) = Unit {0}
ChangesCaller (call.Receive _ _ _) = Unit {0}
ChangesCaller call.Fetch = Unit {0}
ChangesCaller _ = ⊥

-- whether a call takes memory
abbrev pub takes_memory : Call → Bool
takes_memory (call.Retype _ _ _ _ _ _) = Bool.true
takes_memory _ = Bool.false

-- the event could be made, but there isn't the memory that it takes
pub record LacksMemory (m : Machine) (event : Event) (outcome : Outcome) (next : Machine) : Type 0 where
  pub takes : takes_memory event.call ≡ Bool.true
  pub made : Made × Machine
  pub could : made_by m event ≡ Ok made
  pub refused : outcome ≡ Refused out_of_memory
  pub same : next ≡ m

-- the step from one machine to another with an outcome
pub data Step (m : Machine) (event : Event) (outcome : Outcome) (next : Machine) : Type 0 where
  ends : step_of m event ≡ (outcome, next) → Step m event outcome next
  lacks : LacksMemory m event outcome next → Step m event outcome next

-- the refusals that a call may get: for a condition of its own or, if it takes memory, for want of memory
abbrev pub MayBeRefused : Call → Refusal → Type 0
MayBeRefused call refusal = IsOfCondition refusal ⊎ ((takes_memory call ≡ Bool.true) × (refusal ≡ out_of_memory))

-- how an event may end
abbrev pub MayEnd : Event → Outcome → Type 0
MayEnd event (Refused refusal) = MayBeRefused event.call refusal
MayEnd event _ = Unit {0}
