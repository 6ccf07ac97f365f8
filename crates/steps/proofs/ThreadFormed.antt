-- That suspend and resume keep a machine well formed.
use Rattle.std.{specs.Prelude.{None, Option, Some}, proofs.Common.{ℕ, ◌≡◌, refl, subst, sym}}
use Rattle.base.specs.declared.ids.ObjId.{ObjId}
use Rattle.machine.specs.{declared.{object.Object.{Object, Object as o}, thread.{RunState.RunState, Tcb.Tcb}}, Machine.{Machine, object_of}}
use Rattle.machine.specs.{Step.Suspend.with_resumed, WellFormed.{IsThread, IsWellFormed}}
use Rattle.machine.specs.declared.thread.RunState.TheVariants as state
use Rattle.steps.proofs.{MessageFormed.{aborted_formed, ready_formed, suspended_formed}, ThreadRow.{ResumeDone, SuspendDone}}

pub resumed_formed : (m : Machine) (thread : ObjId) → IsWellFormed m → IsWellFormed (with_resumed m thread)
unfolding with_resumed
resumed_formed m thread formed = by_object (object_of m thread) refl where
  by_state : (tcb : Tcb) (run : RunState) → IsThread m thread (record tcb { state = run }) → IsWellFormed (with_resumed m thread)
  by_state tcb state.Ready e = rw e formed
  by_state tcb state.Inactive e = rw e (ready_formed m thread formed)
  by_state tcb _ e = rw e (aborted_formed m thread formed)

  by_object : (object : Option Object) → object_of m thread ≡ object → IsWellFormed (with_resumed m thread)
  by_object (Some (o.Tcb tcb)) e = by_state tcb tcb.state e
  by_object None e = rw e formed
  by_object (Some _) e = rw e formed

pub suspend_formed :
    (m : Machine) (caller : ObjId) (address : ℕ) (next : Machine) → IsWellFormed m → SuspendDone m caller address next
    → IsWellFormed next
suspend_formed m caller address next formed done = subst IsWellFormed (sym done.changes) (suspended_formed m done.thread formed)

pub resume_formed :
    (m : Machine) (caller : ObjId) (address : ℕ) (next : Machine) → IsWellFormed m → ResumeDone m caller address next
    → IsWellFormed next
resume_formed m caller address next formed done = subst IsWellFormed (sym done.changes) (resumed_formed m done.thread formed)
