-- A machine of which some threads were halted, some aborted and some unbound from their scheduling contexts, in whatever order: it is read
-- off the machine as it was, object by object and queue by queue (seL4 manual, "Threads and Execution", "Endpoints", "Notifications" and
-- "Scheduling Contexts").
use Rattle.std.specs.Prelude.{◌||◌, ◌≡◌, Bool, List, None, false, if◌then◌else◌, option_map}
use Rattle.base.specs.declared.ids.ObjId.{ObjId}
use Rattle.machine.specs.{declared.{object.Object.Object, thread.{RunState.RunState, Tcb.Tcb}}, Machine.{Machine, object_of, queue_of}}
use Rattle.{machine.specs.{Machine.same_id, Releasing.SameRest}, steps.proofs.LeavingLinks.{Leavers, object_left, queue_left}}
use Rattle.machine.specs.declared.thread.Inbox.TheVariants as inbox
use Rattle.machine.specs.declared.thread.RunState.TheVariants as state

-- which threads were halted, aborted and unbound
pub record Reach : Type 0 where
  pub halts : ObjId → Bool
  pub aborts : ObjId → Bool
  pub unbinds : ObjId → Bool

abbrev pub nobody : Reach
nobody = record { halts = λ _. false; aborts = λ _. false; unbinds = λ _. false }

-- one more thread
abbrev pub and_halted : Reach → ObjId → Reach
and_halted reach thread = record reach { halts = λ id. same_id id thread || reach.halts id }

abbrev pub and_aborted : Reach → ObjId → Reach
and_aborted reach thread = record reach { aborts = λ id. same_id id thread || reach.aborts id }

abbrev pub and_unbound : Reach → ObjId → Reach
and_unbound reach thread = record reach { unbinds = λ id. same_id id thread || reach.unbinds id }

-- whether a thread left its queue and its reply
abbrev pub has_left : Reach → ObjId → Bool
has_left reach thread = reach.halts thread || reach.aborts thread

-- a thread's parts, by whether it was halted, aborted and unbound; one that was aborted may be halted later
abbrev pub state_by : Bool → Bool → RunState → RunState
state_by halts aborts run = if halts then state.Inactive else if aborts then state.Ready else run

abbrev pub tcb_by : Bool → Bool → Bool → Tcb → Tcb
tcb_by halts aborts unbinds tcb =
    record tcb {
      state = state_by halts aborts tcb.state;
      inbox = if aborts then inbox.Aborted else tcb.inbox;
      context = if unbinds then None else tcb.context;
    }

abbrev pub leavers : Reach → Leavers
leavers reach =
    record {
      goes = λ _. false;
      leaves = has_left reach;
      unbinds = reach.unbinds;
      becomes = λ id. tcb_by (reach.halts id) (reach.aborts id) (reach.unbinds id);
    }

abbrev pub object_by : Reach → ObjId → Object → Object
object_by reach = object_left (leavers reach)

-- those of a queue who left no queue
abbrev pub queue_by : Reach → List ObjId → List ObjId
queue_by reach = queue_left (leavers reach)

pub record IsReached (old : Machine) (reach : Reach) (now : Machine) : Type 0 where
  pub objects : (id : ObjId) → object_of now id ≡ option_map (object_by reach id) (object_of old id)
  pub queues : (id : ObjId) → queue_of now id ≡ option_map (queue_by reach) (queue_of old id)
  pub rest : SameRest old now
