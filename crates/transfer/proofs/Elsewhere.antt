-- That a thread that waits nowhere still waits nowhere after others leave their queues.
use Rattle.std.{specs.Prelude.{Contains, None, Option, Some, filter}, proofs.Common.{◌∙◌, ◌≡◌, Bool, List, cond, false}}
use Rattle.{std.proofs.{Common.{not, refl, subst, sym, true}, lemmas.Option.same_Some}, base.specs.declared.ids.ObjId.ObjId}
use Rattle.machine.specs.declared.{object.{Object.{Object, Object as o}, ReplyState.ReplyState}, thread.{RunState.RunState, Tcb.Tcb}}
use Rattle.machine.specs.{Changes.{with_reply, with_tcb, without_waiting}, Finalising.halted, Machine.{Machine, object_of, queue_of}}
use Rattle.machine.specs.{Machine.{same_id, with_queue}, Releasing.{unblocked, with_holder_halted, with_holding, with_named, with_released}}
use Rattle.machine.proofs.LookUps.{queue_of-with_object, queue_of-with_queue}
use Rattle.{steps.proofs.LeavingLinks.in_whole, objects.specs.Waiting.WaitsNowhere}
use Rattle.machine.specs.declared.object.ReplyState.TheVariants as reply
use Rattle.machine.specs.declared.thread.RunState.TheVariants as state

free_along :
    (m next : Machine) (thread : ObjId) → ((q : ObjId) → queue_of next q ≡ queue_of m q) → WaitsNowhere m thread
    → WaitsNowhere next thread
free_along m next thread same free q threads e = free q threads (sym (same q) ∙ e)

queues_held : (m : Machine) (id : ObjId) (holds : ReplyState) (q : ObjId) → queue_of (with_holding m id holds) q ≡ queue_of m q
unfolding with_holding with_reply
queues_held m id holds q = by_object (object_of m id) refl where
  by_object : (object : Option Object) → object_of m id ≡ object → queue_of (with_holding m id holds) q ≡ queue_of m q
  by_object None e = rw e refl
  by_object (Some (o.Reply holding)) e =
      rw (e, e) (queue_of-with_object m id (o.Reply (record holding { state = holds })) q)
  by_object (Some _) e = rw e refl

queues_with_tcb : (m : Machine) (id : ObjId) (tcb : Tcb) (q : ObjId) → queue_of (with_tcb m id tcb) q ≡ queue_of m q
unfolding with_tcb
queues_with_tcb m id tcb q = by_object (object_of m id) refl where
  by_object : (object : Option Object) → object_of m id ≡ object → queue_of (with_tcb m id tcb) q ≡ queue_of m q
  by_object None e = rw e refl
  by_object (Some (o.Tcb old)) e = rw e (queue_of-with_object m id (o.Tcb tcb) q)
  by_object (Some _) e = rw e refl

free_without :
    (m : Machine) (id other thread : ObjId) → WaitsNowhere m thread → WaitsNowhere (without_waiting m id other) thread
unfolding without_waiting
free_without m id other thread free = by_queue (queue_of m id) refl where
  by_queue : (queue : Option (List ObjId)) → queue_of m id ≡ queue → WaitsNowhere (without_waiting m id other) thread
  by_queue None e = rw e free
  by_queue (Some all) e = rw e (λ q threads is within. by_tie q threads within (same_id q id) refl (sym (fewer q) ∙ is)) where
    left : List ObjId
    left = filter (λ waits. not (same_id waits other)) all

    fewer : (q : ObjId) → queue_of (with_queue m id left) q ≡ cond (same_id q id) (Some left) (queue_of m q)
    fewer q = queue_of-with_queue m id left q

    by_tie :
        (q : ObjId) (threads : List ObjId) → Contains threads thread → (tie : Bool) → same_id q id ≡ tie
        → cond tie (Some left) (queue_of m q) ≡ Some threads → ⊥
    by_tie q threads within true there is =
        let same : left ≡ threads = same_Some left threads is in
        free id all e
        (in_whole (λ waits. not (same_id waits other)) all thread
        (subst (λ (ts : List ObjId). Contains ts thread) (sym same) within))
    by_tie q threads within false there is = free q threads is within

free_named :
    (m : Machine) (named : Option ObjId) (holds : ReplyState) (thread : ObjId) → WaitsNowhere m thread
    → WaitsNowhere (with_named m named holds) thread
free_named m None holds thread free = free
free_named m (Some id) holds thread free = free_along m (with_holding m id holds) thread (queues_held m id holds) free

free_unblocked :
    (m : Machine) (other : ObjId) (run : RunState) (thread : ObjId) → WaitsNowhere m thread
    → WaitsNowhere (unblocked m other run) thread
free_unblocked m other (state.Sending sending) thread free = free_without m sending.endpoint other thread free
free_unblocked m other (state.Receiving receiving) thread free =
    free_named (without_waiting m receiving.endpoint other) receiving.reply reply.Free thread
    (free_without m receiving.endpoint other thread free)
free_unblocked m other (state.Waiting notification) thread free = free_without m notification other thread free
free_unblocked m other (state.Called calling) thread free = free_named m (Some calling.reply) reply.Free thread free
free_unblocked m other state.Inactive thread free = free
free_unblocked m other state.Ready thread free = free

free_released :
    (m : Machine) (other : ObjId) (change : Tcb → Tcb) (thread : ObjId) → WaitsNowhere m thread
    → WaitsNowhere (with_released m other change) thread
unfolding with_released
free_released m other change thread free = by_object (object_of m other) refl where
  by_object : (object : Option Object) → object_of m other ≡ object → WaitsNowhere (with_released m other change) thread
  by_object None e = rw e free
  by_object (Some (o.Tcb tcb)) e =
      rw e
      (free_along (unblocked m other tcb.state) (with_tcb (unblocked m other tcb.state) other (change tcb)) thread
      (queues_with_tcb (unblocked m other tcb.state) other (change tcb)) (free_unblocked m other tcb.state thread free))
  by_object (Some _) e = rw e free

-- the thread that a reply holds is halted
pub free_halted_holder :
    (m : Machine) (id thread : ObjId) → WaitsNowhere m thread → WaitsNowhere (with_holder_halted m id) thread
unfolding with_holder_halted
free_halted_holder m id thread free = by_object (object_of m id) refl where
  by_object : (object : Option Object) → object_of m id ≡ object → WaitsNowhere (with_holder_halted m id) thread
  by_object None e = rw e free
  by_object (Some (o.Reply holding)) e = by_state holding.state refl where
    by_state : (run : ReplyState) → holding.state ≡ run → WaitsNowhere (with_holder_halted m id) thread
    by_state (reply.Waiting held) is = rw (e, is) (free_released m held halted thread free)
    by_state (reply.Called held) is = rw (e, is) (free_released m held halted thread free)
    by_state reply.Free is = rw (e, is) free
  by_object (Some _) e = rw e free
