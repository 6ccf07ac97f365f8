-- Links of a thread, in a machine whose links agree: the thread's links agree at both ends.
use Rattle.std.{specs.Prelude.{Contains, Some}, proofs.Common.{◌∙◌, ◌≡◌, List, ap, refl, subst, sym}}
use Rattle.base.specs.declared.ids.ObjId.{ObjId}
use Rattle.machine.specs.declared.object.{Object.Object as o, Reply.Reply, ReplyState.{ReplyState, ReplyState as reply}}
use Rattle.machine.specs.{declared.thread.{RunState.RunState, Tcb.Tcb}, Finalising.IsHolding, Machine.{Machine, object_of, queue_of}}
use Rattle.machine.specs.declared.thread.RunState.TheVariants as state
use Rattle.machine.{specs.WellFormed.{IsCallingThrough, IsReceivingWith, IsThread, LinksAgree, WaitsAt}, proofs.Leaving.{HasLinks, Names}}
use Rattle.machine.proofs.RemovalTable.{one_thread}

pub receiving_names : (run : RunState) (id : ObjId) → IsReceivingWith run id → Names run id
receiving_names (state.Receiving receiving) id e = e
receiving_names _ id e = absurd e

pub calling_names : (run : RunState) (id : ObjId) → IsCallingThrough run id → Names run id
calling_names (state.Called calling) id e = e
calling_names _ id e = absurd e

module _ (m : Machine) (links : LinksAgree m) (thread : ObjId) (tcb : Tcb) (there : IsThread m thread tcb) where
  queued_at :
      (id : ObjId) (threads : List ObjId) → queue_of m id ≡ Some threads → Contains threads thread → WaitsAt tcb.state id
  queued_at id threads e within =
      let w = links.queued id threads thread e within in
      subst (λ (t : Tcb). WaitsAt t.state id) (one_thread m thread w.0 tcb w.2 there) w.3

  held_by :
      (id : ObjId) (holding : Reply) → object_of m id ≡ Some (o.Reply holding) → IsHolding holding.state thread
      → Names tcb.state id
  held_by id holding e is = by_state holding.state (e ∙ refl) is where
    by_state :
        (run : ReplyState) → object_of m id ≡ Some (o.Reply (record { address = holding.address; state = run }))
        → IsHolding run thread → Names tcb.state id
    by_state (reply.Waiting waiter) at same =
        let w = links.waiting_reply id waiter holding.address at in
        subst (λ (t : Tcb). Names t.state id) (one_thread m thread w.0 tcb (ap (object_of m) (sym same) ∙ w.1) there)
        (receiving_names w.0.state id w.2)
    by_state (reply.Called caller) at same =
        let w = links.reply_called id caller holding.address at in
        subst (λ (t : Tcb). Names t.state id) (one_thread m thread w.0 tcb (ap (object_of m) (sym same) ∙ w.1) there)
        (calling_names w.0.state id w.2)
    by_state reply.Free at same = absurd same

  holds_it :
      (id : ObjId) → Names tcb.state id
      → (holding : Reply) × (object_of m id ≡ Some (o.Reply holding)) × IsHolding holding.state thread
  holds_it id names = by_run tcb.state refl names where
    by_run :
        (run : RunState) → tcb.state ≡ run → Names run id
        → (holding : Reply) × (object_of m id ≡ Some (o.Reply holding)) × IsHolding holding.state thread
    by_run (state.Receiving receiving) e named =
        let w = links.receiver_reply thread id tcb there (subst (λ (run : RunState). IsReceivingWith run id) (sym e) named) in
        (record { address = w.0; state = reply.Waiting thread }, w.1, refl)
    by_run (state.Called calling) e named =
        let w = links.called_reply thread id tcb there (subst (λ (run : RunState). IsCallingThrough run id) (sym e) named) in
        (record { address = w.0; state = reply.Called thread }, w.1, refl)
    by_run _ e named = absurd named

  pub links_of : HasLinks m thread tcb.state
  links_of = record { queued = queued_at; held = held_by; named = holds_it }
