-- The machine after a thread's contents change, and that a caller is in no queue.
use Rattle.std.{specs.Prelude.{Contains, Ok, Some}, proofs.Common.{ℕ, ◌∙◌, ◌≡◌, List, refl, subst, sym}}
use Rattle.base.specs.declared.ids.ObjId.{ObjId}
use Rattle.machine.specs.{declared.{object.{Object.Object as o, Share.Share}, thread.Tcb.Tcb}, Changes.with_tcb, Machine.Machine}
use Rattle.machine.specs.{Machine.{object_of, queue_of, with_object}, Step.admitted, WellFormed.{IsCaller, IsIdle, IsThread, IsWellFormed}}
use Rattle.machine.proofs.{Idle.idle_in_none, Ids.at_itself, LookUps.{object_of-with_object, queue_of-with_object}}
use Rattle.steps.proofs.Admission.{admits}

pub with_tcb_there :
    (m : Machine) (id : ObjId) (old new : Tcb) → IsThread m id old → with_tcb m id new ≡ with_object m id (o.Tcb new)
unfolding with_tcb
with_tcb_there m id old new there = rw there refl

pub thread_with_tcb : (m : Machine) (id : ObjId) (old new : Tcb) → IsThread m id old → IsThread (with_tcb m id new) id new
thread_with_tcb m id old new there =
    rw (with_tcb_there m id old new there)
    (object_of-with_object m id (o.Tcb new) id ∙ at_itself id (Some (o.Tcb new)) (object_of m id))

pub queue_with_tcb :
    (m : Machine) (id : ObjId) (old new : Tcb) → IsThread m id old → (q : ObjId) → queue_of (with_tcb m id new) q ≡ queue_of m q
queue_with_tcb m id old new there q = rw (with_tcb_there m id old new there) (queue_of-with_object m id (o.Tcb new) q)

pub ready_caller_waits_nowhere :
    (m : Machine) (caller : ObjId) → IsWellFormed m → IsCaller m caller → (id : ObjId) (threads : List ObjId)
    → queue_of m id ≡ Some threads → ¬ (Contains threads caller)
ready_caller_waits_nowhere m caller formed is id threads e within =
    idle_in_none m formed.links caller is.thread is.there (subst IsIdle (sym is.ready) tt) id threads caller e within refl

pub caller_waits_nowhere :
    (m : Machine) (core : ℕ) (caller : ObjId) (share : Share) → IsWellFormed m → admitted m core caller ≡ Ok share
    → (id : ObjId) (threads : List ObjId) → queue_of m id ≡ Some threads → ¬ (Contains threads caller)
caller_waits_nowhere m core caller share formed e =
    ready_caller_waits_nowhere m caller formed (admits m core caller share e)
