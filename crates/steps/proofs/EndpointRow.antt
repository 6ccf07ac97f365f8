-- The common part of the calls on endpoints and replies: the object that a capability leads to, and who waits first at an endpoint.
use Rattle.std.{specs.Prelude.{Contains, None, Ok, Option, Result, Some}, proofs.Common.{[], ℕ, ◌∙◌, ◌∷◌, ◌≡◌, Bool, List, ap, arith, refl}}
use Rattle.std.proofs.{Common.{subst, sym, true}, lemmas.Option.{none-some, same_Some}}
use Rattle.base.specs.declared.{ids.ObjId.ObjId, refusal.Cause.Cause}
use Rattle.machine.specs.declared.{cap.{Badged.Badged, Detail.Detail as d}, object.{Endpoint.Endpoint, Object.Object as o}}
use Rattle.machine.specs.declared.{object.ObjectKind.{ObjectKind, ObjectKind as kind}, thread.{Receiving.Receiving, RunState.RunState}}
use Rattle.machine.specs.{declared.thread.{Sending.Sending, Tcb.Tcb}, Capabilities.badged_of, Changes.first_waiting, Machine.Machine}
use Rattle.machine.specs.{Machine.{object_of, queue_of}, Refusing.◌>>=◌, Step.{Deliver.{first_at, receiver_in, sender_in}, Find.find}}
use Rattle.machine.specs.{Step.Find.permitted, WellFormed.{IsAlike, IsSending, IsThread, IsWellFormed, WaitsAt, WaitsAtKind, kind_of}}
use Rattle.machine.proofs.Queues.{first_in}
use Rattle.machine.specs.declared.thread.RunState.TheVariants as state
use Rattle.steps.proofs.{Conditions.both_done, Finding.{FindsObject, finds, found_kind, is_permitted}, FoundObjects.endpoint_of_kind}

-- an endpoint is found by a capability with a right
pub record IsEndOpen (m : Machine) (caller : ObjId) (address : ℕ) (allows : Badged → Bool) : Type 0 where
  pub id : ObjId
  pub end : Badged
  pub finds : FindsObject m caller address id (d.Endpoint end)
  pub allowed : allows end ≡ true
  pub endpoint : Endpoint
  pub there : object_of m id ≡ Some (o.Endpoint endpoint)

-- a thread that waits to receive at an endpoint
pub record IsReceiver (m : Machine) (id receiver : ObjId) (receiving : Receiving) : Type 0 where
  pub tcb : Tcb
  pub there : IsThread m receiver tcb
  pub state : tcb.state ≡ state.Receiving receiving
  pub at : receiving.endpoint ≡ id

-- a thread that waits to send at an endpoint
pub record IsSender (m : Machine) (id sender : ObjId) (sending : Sending) : Type 0 where
  pub tcb : Tcb
  pub there : IsThread m sender tcb
  pub state : tcb.state ≡ state.Sending sending
  pub at : sending.endpoint ≡ id

-- a call that passed its conditions found an open endpoint, and did what follows them
pub opens_end :
    {B : Type 0} (m : Machine) (caller : ObjId) (address : ℕ) (allows : Badged → Bool) (then_do : ObjId × Badged → Result B Cause)
    (b : B)
    → IsWellFormed m
    → ◌>>=◌ (find kind.Endpoint m caller address)
    (λ found. ◌>>=◌ (permitted (allows (badged_of found.1.detail))) (λ _. then_do (found.1.object, badged_of found.1.detail)))
    ≡ Ok b
    → (open_to : IsEndOpen m caller address allows) × (then_do (open_to.id, open_to.end) ≡ Ok b)
opens_end m caller address allows then_do b formed e =
    let looked = both_done (find kind.Endpoint m caller address) _ b e in
    let id = (looked.0).1.object in
    let end = badged_of (looked.0).1.detail in
    let right = both_done (permitted (allows end)) _ b looked.2 in
    let finds = finds kind.Endpoint m caller address looked.0 looked.1 in
    let there = endpoint_of_kind (object_of m id) (found_kind formed finds) in (
      record {
        id = id;
        end = end;
        finds = finds;
        allowed = is_permitted (allows end) right.0 right.1;
        endpoint = there.0;
        there = there.1;
      },
      right.2,
    )

none_first : (m : Machine) (id : ObjId) → queue_of m id ≡ None → first_at m id ≡ None
unfolding first_at first_waiting
none_first m id e = rw e refl

empty_first : (m : Machine) (id : ObjId) → queue_of m id ≡ Some [] → first_at m id ≡ None
unfolding first_at first_waiting
empty_first m id e = rw e refl

head_first :
    (m : Machine) (id first : ObjId) (others : List ObjId) (tcb : Tcb) → queue_of m id ≡ Some (first ∷ others)
    → IsThread m first tcb → first_at m id ≡ Some (first, tcb.state)
unfolding first_at first_waiting
head_first m id first others tcb waited there = rw (waited, there) refl

receives_first :
    (m : Machine) (id first : ObjId) (tcb : Tcb) (receiver : ObjId) (receiving : Receiving) → IsThread m first tcb
    → WaitsAt tcb.state id → receiver_in (Some (first, tcb.state)) ≡ Some (receiver, receiving)
    → IsReceiver m id receiver receiving
receives_first m id first tcb receiver receiving there waits e = by_state tcb.state refl where
  by_state : (run : RunState) → tcb.state ≡ run → IsReceiver m id receiver receiving
  by_state (state.Receiving other) is =
      let found : Some (first, other) ≡ Some (receiver, receiving) = ap (λ r. receiver_in (Some (first, r))) (sym is) ∙ e in
      let same : (first, other) ≡ (receiver, receiving) = same_Some (first, other) (receiver, receiving) found in
      let one : other ≡ receiving = ap (λ p. p.1) same in
      record {
        tcb = tcb;
        there = ap (object_of m) (sym (ap (λ p. p.0) same)) ∙ there;
        state = is ∙ ap (λ (r : Receiving). state.Receiving r) one;
        at = subst (λ (run : RunState). WaitsAt run id) (is ∙ ap (λ (r : Receiving). state.Receiving r) one) waits;
      }
  by_state _ is =
      absurd (none-some (receiver, receiving) (ap (λ r. receiver_in (Some (first, r))) (sym is) ∙ e))

sends_first :
    (m : Machine) (id first : ObjId) (tcb : Tcb) (sender : ObjId) (sending : Sending) → IsThread m first tcb
    → WaitsAt tcb.state id → sender_in (Some (first, tcb.state)) ≡ Some (sender, sending)
    → IsSender m id sender sending
sends_first m id first tcb sender sending there waits e = by_state tcb.state refl where
  by_state : (run : RunState) → tcb.state ≡ run → IsSender m id sender sending
  by_state (state.Sending other) is =
      let found : Some (first, other) ≡ Some (sender, sending) = ap (λ r. sender_in (Some (first, r))) (sym is) ∙ e in
      let same : (first, other) ≡ (sender, sending) = same_Some (first, other) (sender, sending) found in
      let one : other ≡ sending = ap (λ p. p.1) same in
      record {
        tcb = tcb;
        there = ap (object_of m) (sym (ap (λ p. p.0) same)) ∙ there;
        state = is ∙ ap (λ (s : Sending). state.Sending s) one;
        at = subst (λ (run : RunState). WaitsAt run id) (is ∙ ap (λ (s : Sending). state.Sending s) one) waits;
      }
  by_state _ is = absurd (none-some (sender, sending) (ap (λ r. sender_in (Some (first, r))) (sym is) ∙ e))

-- the first thread that waits to receive, or to send, waits at the endpoint
module _ (m : Machine) (id : ObjId) (formed : IsWellFormed m) where
  pub receiver_first :
      (receiver : ObjId) (receiving : Receiving) → receiver_in (first_at m id) ≡ Some (receiver, receiving)
      → IsReceiver m id receiver receiving
  receiver_first receiver receiving e = by_queue (queue_of m id) refl where
    by_queue : (queue : Option (List ObjId)) → queue_of m id ≡ queue → IsReceiver m id receiver receiving
    by_queue None q = absurd (none-some (receiver, receiving) (ap receiver_in (sym (none_first m id q)) ∙ e))
    by_queue (Some []) q = absurd (none-some (receiver, receiving) (ap receiver_in (sym (empty_first m id q)) ∙ e))
    by_queue (Some (first ∷ others)) q =
        let w = formed.links.queued id (first ∷ others) first q (first_in first others) in
        receives_first m id first w.0 receiver receiving w.2 w.3
        (ap receiver_in (sym (head_first m id first others w.0 q w.2)) ∙ e)

  pub sender_first :
      (sender : ObjId) (sending : Sending) → sender_in (first_at m id) ≡ Some (sender, sending) → IsSender m id sender sending
  sender_first sender sending e = by_queue (queue_of m id) refl where
    by_queue : (queue : Option (List ObjId)) → queue_of m id ≡ queue → IsSender m id sender sending
    by_queue None q = absurd (none-some (sender, sending) (ap sender_in (sym (none_first m id q)) ∙ e))
    by_queue (Some []) q = absurd (none-some (sender, sending) (ap sender_in (sym (empty_first m id q)) ∙ e))
    by_queue (Some (first ∷ others)) q =
        let w = formed.links.queued id (first ∷ others) first q (first_in first others) in
        sends_first m id first w.0 sender sending w.2 w.3
        (ap sender_in (sym (head_first m id first others w.0 q w.2)) ∙ e)

-- a thread that waits at an endpoint and doesn't receive sends
sends_so :
    (first : ObjId) (run : RunState) → WaitsAtKind run kind.Endpoint → receiver_in (Some (first, run)) ≡ None → IsSending run
sends_so first (state.Sending s) fits e = tt
sends_so first (state.Receiving r) fits e = absurd (none-some (first, r) (sym e))
sends_so first _ fits e = absurd fits

-- the first thread that waits doesn't send if it isn't found to
sends_not : (first : ObjId) (run : RunState) → sender_in (Some (first, run)) ≡ None → ¬ (IsSending run)
sends_not first (state.Sending s) e sends = none-some (first, s) (sym e)
sends_not first _ e sends = absurd sends

-- all who wait at an endpoint send if nobody receives there, and the other way round
module _ (m : Machine) (id : ObjId) (formed : IsWellFormed m) (is : kind_of m id ≡ Some kind.Endpoint) where
  pub no_receiver : (sending : Sending) → receiver_in (first_at m id) ≡ None → IsAlike m id (state.Sending sending)
  no_receiver sending e threads other tcb q within there = (λ _. tt, λ _. by_list threads q within) where
    by_list : (threads : List ObjId) → queue_of m id ≡ Some threads → Contains threads other → IsSending tcb.state
    by_list [] q within = let k : ℕ = within.0 in absurd (omega arith)
    by_list (first ∷ others) q within =
        let w = formed.links.queued id (first ∷ others) first q (first_in first others) in
        let at : Some w.1 ≡ Some kind.Endpoint = sym w.4 ∙ is in
        let fits : WaitsAtKind w.0.state kind.Endpoint =
        subst (λ (k : ObjectKind). WaitsAtKind w.0.state k) (same_Some w.1 kind.Endpoint at) w.5 in
        let sends : IsSending w.0.state =
        sends_so first w.0.state fits (ap receiver_in (sym (head_first m id first others w.0 q w.2)) ∙ e) in
        formed.links.one_way id first other (first ∷ others) w.0 tcb q (first_in first others) within w.2 there sends is

  pub no_sender : (receiving : Receiving) → sender_in (first_at m id) ≡ None → IsAlike m id (state.Receiving receiving)
  no_sender receiving e threads other tcb q within there = (λ sends. by_list threads q within sends, λ no. absurd no) where
    by_list : (threads : List ObjId) → queue_of m id ≡ Some threads → Contains threads other → IsSending tcb.state → ⊥
    by_list [] q within sends = let k : ℕ = within.0 in omega arith
    by_list (first ∷ others) q within sends =
        let w = formed.links.queued id (first ∷ others) first q (first_in first others) in
        sends_not first w.0.state (ap sender_in (sym (head_first m id first others w.0 q w.2)) ∙ e)
        (formed.links.one_way id other first (first ∷ others) tcb w.0 q within (first_in first others) there w.2 sends is)
