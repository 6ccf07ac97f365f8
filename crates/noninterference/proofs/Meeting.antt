-- Threads that wait first at an endpoint with the same queue in two machines; and that no capability arrives in a fixed system.
use Rattle.std.proofs.Common.{[], ◌∙◌, ◌∷◌, ◌≡◌, ◌⊎◌, Err, List, None, Ok, Option, Result, Some, ap, false, inl, inr, option_map, refl}
use Rattle.{std.proofs.{Common.{subst, sym}, lemmas.Option.same_Some}, base.specs.declared.{ids.ObjId.ObjId, refusal.Cause.Cause}}
use Rattle.machine.specs.declared.{call.{Answer.Answer as answer, Made.TheVariants.Done}, object.Object.{Object, Object as o}}
use Rattle.machine.specs.declared.{object.ObjectKind.{ObjectKind, ObjectKind as kind}, slot_address.{Ends.Ends, SlotAddress.SlotAddress}}
use Rattle.machine.specs.declared.thread.{Receiving.Receiving, RunState.{RunState, RunState as state}, Sending.Sending, Tcb.Tcb}
use Rattle.machine.specs.{Changes.first_waiting, Finalising.halted, Machine.{Machine, object_of, queue_of}}
use Rattle.machine.specs.{Releasing.{with_given, with_released}, Step.Deliver.{arrival_of, delivered, first_at, message_of, sent}}
use Rattle.machine.specs.{Step.Receive.{received_or_waits, with_reply_ended}, WellFormed.{IsSending, IsThread, LinksAgree}}
use Rattle.machine.{specs.WellFormed.{WaitsAt, WaitsAtKind, kind_of}, proofs.{Ids.one_or_two, Leaving.freed, Queues.first_in}}
use Rattle.steps.proofs.{Arrival.arrives, Beside.holder_leaves, Releases.{released_elsewhere, released_is, released_thread}}
use Rattle.{integrity.proofs.Shrinking.same_tcb, noninterference.proofs.Finds.{IsFixedAt, leads_nowhere}}

-- the thread that waits first at an endpoint
pub record IsFirstAt (m : Machine) (id first : ObjId) : Type 0 where
  pub tcb : Tcb
  pub there : IsThread m first tcb
  pub waits : WaitsAt tcb.state id
  pub way : WaitsAtKind tcb.state kind.Endpoint
  pub is : first_at m id ≡ Some (first, tcb.state)

-- nobody waits there in either, or the same thread is first
pub data Meets (m n : Machine) (id : ObjId) : Type 0 where
  nobody : first_at m id ≡ None → first_at n id ≡ None → Meets m n id
  somebody : (first : ObjId) → IsFirstAt m id first → IsFirstAt n id first → Meets m n id

none_first : (m : Machine) (id : ObjId) → queue_of m id ≡ None → first_at m id ≡ None
unfolding first_at first_waiting
none_first m id e = rw e refl

empty_first : (m : Machine) (id : ObjId) → queue_of m id ≡ Some [] → first_at m id ≡ None
unfolding first_at first_waiting
empty_first m id e = rw e refl

head_first :
    (m : Machine) (id first : ObjId) (others : List ObjId) (tcb : Tcb) → queue_of m id ≡ Some (first ∷ others) → IsThread m first tcb
    → first_at m id ≡ Some (first, tcb.state)
unfolding first_at first_waiting
head_first m id first others tcb waited there = rw (waited, there) refl

first_is :
    (m : Machine) (id first : ObjId) (others : List ObjId) → LinksAgree m → kind_of m id ≡ Some kind.Endpoint
    → queue_of m id ≡ Some (first ∷ others) → IsFirstAt m id first
first_is m id first others links is waited =
    let w = links.queued id (first ∷ others) first waited (first_in first others) in
    record {
      tcb = w.0;
      there = w.2;
      waits = w.3;
      way = subst (λ (k : ObjectKind). WaitsAtKind w.0.state k) (same_Some w.1 kind.Endpoint (sym w.4 ∙ is)) w.5;
      is = head_first m id first others w.0 waited w.2;
    }

pub meet :
    (m n : Machine) (id : ObjId) → LinksAgree m → LinksAgree n → kind_of m id ≡ Some kind.Endpoint → kind_of n id ≡ Some kind.Endpoint
    → queue_of n id ≡ queue_of m id → Meets m n id
meet m n id links others is too same = by_queue (queue_of m id) refl where
  by_queue : (queue : Option (List ObjId)) → queue_of m id ≡ queue → Meets m n id
  by_queue None e = nobody (none_first m id e) (none_first n id (same ∙ e))
  by_queue (Some []) e = nobody (empty_first m id e) (empty_first n id (same ∙ e))
  by_queue (Some (first ∷ rest)) e = somebody first (first_is m id first rest links is e) (first_is n id first rest others too (same ∙ e))

-- a thread that waits at an endpoint sends or receives
abbrev pub IsWay : RunState → Type 0
IsWay run = ((sending : Sending) × (run ≡ state.Sending sending)) ⊎ ((receiving : Receiving) × (run ≡ state.Receiving receiving))

pub way_of : (run : RunState) → WaitsAtKind run kind.Endpoint → IsWay run
way_of (state.Sending sending) way = inl (sending, refl)
way_of (state.Receiving receiving) way = inr (receiving, refl)
way_of _ way = absurd way

-- no capability arrives
no_arrival :
    (m : Machine) → IsFixedAt m → (sender : ObjId) (sending : Sending) (receiver : ObjId) (slot : Option SlotAddress)
    → (cause : Cause) × (arrival_of m sender sending receiver slot ≡ Err cause)
no_arrival m fixed sender sending receiver slot = by_result (arrival_of m sender sending receiver slot) refl where
  by_result :
      (r : Result Ends Cause) → arrival_of m sender sending receiver slot ≡ r
      → (cause : Cause) × (arrival_of m sender sending receiver slot ≡ Err cause)
  by_result (Ok ends) e =
      let arrival = arrives m sender sending receiver slot ends e in
      absurd (leads_nowhere m fixed receiver arrival.to ends.target arrival.leads_to)
  by_result (Err cause) e = (cause, e)

-- a message is delivered without a capability
pub delivered_plain :
    (m : Machine) → IsFixedAt m → (sender : ObjId) (sending : Sending) (receiver : ObjId) (receiving : Receiving)
    → delivered m sender sending receiver receiving ≡ with_given m receiver (message_of sending false)
unfolding delivered
delivered_plain m fixed sender sending receiver receiving =
    let none = no_arrival m fixed sender sending receiver receiving.slot in rw (none.1) refl

-- a message is received without a capability
pub taken_plain :
    (m : Machine) → IsFixedAt m → (caller : ObjId) (receiving : Receiving) (sender : ObjId) (sending : Sending)
    → received_or_waits m caller receiving (Some (sender, sending))
    ≡ (Done (answer.Message (message_of sending false)), sent m sender sending receiving.reply)
taken_plain m fixed caller receiving sender sending =
    let none = no_arrival m fixed sender sending caller receiving.slot in rw (none.1) refl

-- halting the thread that a reply holds changes no thread that waits to send

unfreed : (thread : ObjId) (object : Option Object) (tcb : Tcb) → option_map (freed thread) object ≡ Some (o.Tcb tcb) → object ≡ Some (o.Tcb tcb)
unfreed thread (Some (o.Reply answers)) tcb e = cc
unfreed thread None tcb e = cc
unfreed thread (Some _) tcb e = e

not_sending : (run : RunState) → run ≡ state.Inactive → IsSending run → ⊥
not_sending run is sends = subst IsSending is sends

pub sender_before :
    (m : Machine) (named : Option ObjId) → LinksAgree m → (sender : ObjId) (tcb : Tcb) → IsThread (with_reply_ended m named) sender tcb
    → IsSending tcb.state → IsThread m sender tcb
sender_before m None links sender tcb there sends = there
sender_before m (Some id) links sender tcb there sends = elim (holder_leaves m id links) [
  | inl same ↦ sym (ap (λ (x : Machine). object_of x sender) same) ∙ there
  | inr h ↦
      let released = released_is m h.thread h.tcb halted links h.there in
      let at = sym (ap (λ (x : Machine). object_of x sender) h.changes) ∙ there in
      elim (one_or_two sender h.thread) [
        | inl same ↦
            let is : tcb ≡ halted h.tcb =
            same_tcb tcb (halted h.tcb)
            (same_Some (o.Tcb tcb) (o.Tcb (halted h.tcb))
            (sym at ∙ ap (object_of (with_released m h.thread halted)) same
            ∙ released_thread m (with_released m h.thread halted) h.thread (halted h.tcb) released)) in
            absurd (not_sending tcb.state (ap (λ (x : Tcb). x.state) is) sends)
        | inr apart ↦
            unfreed h.thread (object_of m sender) tcb
            (sym (released_elsewhere m (with_released m h.thread halted) h.thread (halted h.tcb) released sender apart) ∙ at)
      ]
]
