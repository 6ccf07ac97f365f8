-- The effect of a send or call that isn't refused: the first thread that waits to receive got the message, or the caller waits if there is
-- none. A call waits for the answer, with its context lent.
use Rattle.std.{specs.Prelude.{None, Ok, Option, Some, option_map}, proofs.Common.{ℕ, ◌≡◌, ◌⊎◌, List, ap, false, inl, inr, refl, sym, true}}
use Rattle.base.specs.declared.ids.ObjId.{ObjId}
use Rattle.machine.specs.declared.{call.Made.{Made, TheVariants.Blocked}, object.{Endpoint.Endpoint, Object.Object as o}}
use Rattle.machine.specs.{declared.thread.{Receiving.Receiving, RunState.RunState as state, Sending.Sending}, Capabilities.can_write}
use Rattle.machine.specs.{Machine.{Machine, object_of}, Objects.kind_of_object, Releasing.with_blocked, Step.Deliver.answer_through}
use Rattle.machine.specs.Step.{Deliver.{delivered, first_at, receiver_in, sending_by}, Send.{called_or_waits, called_through}}
use Rattle.machine.specs.{Step.Send.{endpoint_call_of, send_of, sent_or_waits}, WellFormed.{IsAlike, IsWellFormed}}
use Rattle.steps.proofs.{Conditions.same_ok, EndpointRow.{IsEndOpen, IsReceiver, no_receiver, opens_end, receiver_first}}

-- a message is delivered to a receiver that waits at an endpoint, or its sender waits there
abbrev pub Sends : Machine → ObjId → ObjId → Sending → (ObjId → Receiving → Machine) → Machine → Type 0
Sends m id caller sending does next =
    ((receiver : ObjId) × (receiving : Receiving) × IsReceiver m id receiver receiving × (next ≡ does receiver receiving))
    ⊎ (IsAlike m id (state.Sending sending) × (next ≡ with_blocked m caller id (state.Sending sending)))

pub record SendDone (m : Machine) (caller : ObjId) (address : ℕ) (words : List ℕ) (capability : Option ℕ) (next : Machine)
    : Type 0 where
  pub open_to : IsEndOpen m caller address (λ end. can_write end.rights)
  pub changes :
      ((receiver : ObjId) × (receiving : Receiving) × IsReceiver m open_to.id receiver receiving
      × (next ≡ delivered m caller (sending_by open_to.id open_to.end false words capability) receiver receiving))
      ⊎ (IsAlike m open_to.id (state.Sending (sending_by open_to.id open_to.end false words capability))
      × (next ≡ with_blocked m caller open_to.id (state.Sending (sending_by open_to.id open_to.end false words capability))))

pub record EndpointCallDone (m : Machine) (caller : ObjId) (address : ℕ) (words : List ℕ) (capability : Option ℕ) (next : Machine)
    : Type 0 where
  pub open_to : IsEndOpen m caller address (λ end. can_write end.rights)
  pub changes :
      ((receiver : ObjId) × (receiving : Receiving) × IsReceiver m open_to.id receiver receiving
      × (next
      ≡ called_through (delivered m caller (sending_by open_to.id open_to.end true words capability) receiver receiving) caller
      receiver
      (answer_through (sending_by open_to.id open_to.end true words capability) receiving.reply)))
      ⊎ (IsAlike m open_to.id (state.Sending (sending_by open_to.id open_to.end true words capability))
      × (next ≡ with_blocked m caller open_to.id (state.Sending (sending_by open_to.id open_to.end true words capability))))

module _ (m : Machine) (caller : ObjId) (sending : Sending) (endpoint : Endpoint) (formed : IsWellFormed m)
    (there : object_of m sending.endpoint ≡ Some (o.Endpoint endpoint)) where
  sends :
      (made : Made) (next : Machine)
      → sent_or_waits m caller sending (receiver_in (first_at m sending.endpoint)) ≡ (made, next)
      → Sends m sending.endpoint caller sending (delivered m caller sending) next
  sends made next does = by_first (receiver_in (first_at m sending.endpoint)) refl does where
    by_first :
        (first : Option (ObjId × Receiving)) → receiver_in (first_at m sending.endpoint) ≡ first
        → sent_or_waits m caller sending first ≡ (made, next)
        → Sends m sending.endpoint caller sending (delivered m caller sending) next
    by_first (Some (receiver, receiving)) is does =
        inl (receiver, receiving, receiver_first m sending.endpoint formed receiver receiving is, sym (ap (λ p. p.1) does))
    by_first None is does =
        inr
        (no_receiver m sending.endpoint formed (ap (option_map kind_of_object) there) sending is, sym (ap (λ p. p.1) does))

  -- the delivery of a call, after which the caller waits for the answer
  abbrev calling : ObjId → Receiving → Machine
  calling receiver receiving =
      called_through (delivered m caller sending receiver receiving) caller receiver (answer_through sending receiving.reply)

  calls :
      (next : Machine) → called_or_waits m caller sending (receiver_in (first_at m sending.endpoint)) ≡ next
      → Sends m sending.endpoint caller sending calling next
  calls next does = by_first (receiver_in (first_at m sending.endpoint)) refl does where
    by_first :
        (first : Option (ObjId × Receiving)) → receiver_in (first_at m sending.endpoint) ≡ first
        → called_or_waits m caller sending first ≡ next
        → Sends m sending.endpoint caller sending calling next
    by_first (Some (receiver, receiving)) is does =
        inl (receiver, receiving, receiver_first m sending.endpoint formed receiver receiving is, sym does)
    by_first None is does =
        inr (no_receiver m sending.endpoint formed (ap (option_map kind_of_object) there) sending is, sym does)

pub send_done :
    (m : Machine) (caller : ObjId) (address : ℕ) (words : List ℕ) (capability : Option ℕ) (made : Made) (next : Machine)
    → IsWellFormed m → send_of m caller address words capability ≡ Ok (made, next)
    → SendDone m caller address words capability next
unfolding send_of
send_done m caller address words capability made next formed e =
    let row = opens_end m caller address (λ end. can_write end.rights)
    (λ found. Ok (sent_or_waits m caller (sending_by found.0 found.1 false words capability) (receiver_in (first_at m found.0))))
    (made, next) formed e in
    let open_to = row.0 in
    record {
      open_to = open_to;
      changes =
          sends m caller (sending_by open_to.id open_to.end false words capability) open_to.endpoint formed open_to.there made
          next (same_ok row.1);
    }

pub endpoint_call_done :
    (m : Machine) (caller : ObjId) (address : ℕ) (words : List ℕ) (capability : Option ℕ) (made : Made) (next : Machine)
    → IsWellFormed m → endpoint_call_of m caller address words capability ≡ Ok (made, next)
    → EndpointCallDone m caller address words capability next
unfolding endpoint_call_of
endpoint_call_done m caller address words capability made next formed e =
    let row = opens_end m caller address (λ end. can_write end.rights)
    (λ found.
    Ok (
      Blocked,
      called_or_waits m caller (sending_by found.0 found.1 true words capability) (receiver_in (first_at m found.0)),
    ))
    (made, next) formed e in
    let open_to = row.0 in
    record {
      open_to = open_to;
      changes =
          calls m caller (sending_by open_to.id open_to.end true words capability) open_to.endpoint formed open_to.there next
          (ap (λ p. p.1) (same_ok row.1));
    }
