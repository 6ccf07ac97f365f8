-- The effect of a receive that isn't refused: it halted the thread that the reply held. It received the message of the first sender, or the
-- caller waits if there is none.
use Rattle.std.{specs.Prelude.{None, Ok, Option, Some, option_map}, proofs.Common.{ℕ, ◌∙◌, ◌≡◌, ◌⊎◌, ap, inl, inr, refl, subst, sym}}
use Rattle.{std.proofs.lemmas.Option.{none-some, same_Some}, base.specs.declared.ids.ObjId.ObjId}
use Rattle.machine.specs.declared.{call.Made.Made, cap.Detail.Detail as d, object.{Endpoint.Endpoint, Object.Object as o}}
use Rattle.machine.specs.declared.{slot_address.SlotAddress.SlotAddress, thread.{Receiving.Receiving, RunState.RunState as state}}
use Rattle.machine.specs.{declared.thread.Sending.Sending, Capabilities.can_read, Machine.{Machine, object_of}, Objects.kind_of_object}
use Rattle.machine.specs.{Refusing.◌>>=◌, Step.{Deliver.{arrival_of, first_at, sender_in, sent, with_arrival}, Find.find}}
use Rattle.machine.specs.Step.Receive.{awaiting_message, find_named_reply, receive_of, received, received_or_waits, with_reply_ended}
use Rattle.machine.specs.WellFormed.{IsAlike, IsWellFormed}
use Rattle.steps.proofs.{Beside.{ended_endpoint, ended_formed}, Conditions.{both_done, same_ok}}
use Rattle.steps.proofs.{EndpointRow.{IsEndOpen, IsSender, no_sender, opens_end, sender_first}, Finding.{FindsObject, finds}}
use Rattle.machine.specs.declared.object.ObjectKind.TheVariants as kind

pub record ReceiveDone (m : Machine) (caller : ObjId) (address : ℕ) (named : Option ℕ) (slot : Option SlotAddress)
    (next : Machine) : Type 0 where
  pub open_to : IsEndOpen m caller address (λ end. can_read end.rights)
  pub reply : Option ObjId
  pub finds_reply : (id : ObjId) → reply ≡ Some id → (at : ℕ) × FindsObject m caller at id d.Reply
  pub changes :
      ((sender : ObjId) × (sending : Sending) × IsSender (with_reply_ended m reply) open_to.id sender sending
      × (next
      ≡ sent
      (with_arrival (with_reply_ended m reply) (arrival_of (with_reply_ended m reply) sender sending caller slot))
      sender sending reply))
      ⊎ (IsAlike (with_reply_ended m reply) open_to.id
      (state.Receiving (record { endpoint = open_to.id; reply = reply; slot = slot }))
      × (next
      ≡ awaiting_message (with_reply_ended m reply) caller (record { endpoint = open_to.id; reply = reply; slot = slot })))

named_found :
    (m : Machine) (caller : ObjId) (named : Option ℕ) (reply : Option ObjId) → find_named_reply m caller named ≡ Ok reply
    → (id : ObjId) → reply ≡ Some id → (at : ℕ) × FindsObject m caller at id d.Reply
named_found m caller None reply e id is = absurd (none-some id (same_ok e ∙ is))
named_found m caller (Some address) reply e id is =
    let found = both_done (find kind.Reply m caller address) _ reply e in
    let same : (found.0).1.object ≡ id = same_Some (found.0).1.object id (same_ok found.2 ∙ is) in
    (address, subst (λ (x : ObjId). FindsObject m caller address x d.Reply) same (finds kind.Reply m caller address found.0 found.1))

-- a sender's message is received, or the receiver waits
module _ (m : Machine) (caller : ObjId) (receiving : Receiving) (endpoint : Endpoint) (formed : IsWellFormed m)
    (there : object_of m receiving.endpoint ≡ Some (o.Endpoint endpoint)) where
  abbrev Receives : Machine → Type 0
  Receives next =
      ((sender : ObjId) × (sending : Sending) × IsSender m receiving.endpoint sender sending
      × (next ≡ sent (with_arrival m (arrival_of m sender sending caller receiving.slot)) sender sending receiving.reply))
      ⊎ (IsAlike m receiving.endpoint (state.Receiving receiving) × (next ≡ awaiting_message m caller receiving))

  receives : (made : Made) (next : Machine) → received m caller receiving ≡ (made, next) → Receives next
  receives made next does = by_first (sender_in (first_at m receiving.endpoint)) refl does where
    by_first :
        (first : Option (ObjId × Sending)) → sender_in (first_at m receiving.endpoint) ≡ first
        → received_or_waits m caller receiving first ≡ (made, next) → Receives next
    by_first (Some (sender, sending)) is does =
        inl (sender, sending, sender_first m receiving.endpoint formed sender sending is, sym (ap (λ p. p.1) does))
    by_first None is does =
        inr
        (no_sender m receiving.endpoint formed (ap (option_map kind_of_object) there) receiving is, sym (ap (λ p. p.1) does))

pub receive_done :
    (m : Machine) (caller : ObjId) (address : ℕ) (named : Option ℕ) (slot : Option SlotAddress) (made : Made) (next : Machine)
    → IsWellFormed m → receive_of m caller address named slot ≡ Ok (made, next) → ReceiveDone m caller address named slot next
unfolding receive_of
receive_done m caller address named slot made next formed e =
    let row = opens_end m caller address (λ end. can_read end.rights)
    (λ found.
    ◌>>=◌ (find_named_reply m caller named)
    (λ id. Ok (received (with_reply_ended m id) caller (record { endpoint = found.0; reply = id; slot = slot }))))
    (made, next) formed e in
    let open_to = row.0 in
    let reply = both_done (find_named_reply m caller named) _ (made, next) row.1 in
    record {
      open_to = open_to;
      reply = reply.0;
      finds_reply = named_found m caller named reply.0 reply.1;
      changes =
          receives (with_reply_ended m reply.0) caller (record { endpoint = open_to.id; reply = reply.0; slot = slot })
          open_to.endpoint (ended_formed m reply.0 formed)
          (ended_endpoint m reply.0 formed.links open_to.id open_to.endpoint open_to.there) made next (same_ok reply.2);
    }
