-- A receive ends alike in two machines that are alike to its label: the same thread waits first at the endpoint in both, and if it sends,
-- its message is the same.
use Rattle.std.{specs.Prelude.{None, Ok, Option, Some}, proofs.Common.{ℕ, ◌∙◌, ◌≡◌, ap, false, inl, inr}}
use Rattle.std.proofs.{Common.{option_map, refl, subst, sym, true}, lemmas.Option.{none-some, same_Some}}
use Rattle.base.specs.declared.{ids.{ObjId.ObjId, SlotRef.SlotRef}, kind.Kind.Kind as authority}
use Rattle.machine.specs.declared.{call.{Answer.Answer as answer, Made.{Made, TheVariants.Done}}, cap.Cap.Cap, object.Endpoint.Endpoint}
use Rattle.machine.specs.declared.{object.{Object.Object as o, ObjectKind.ObjectKind as kind}, slot_address.SlotAddress.SlotAddress}
use Rattle.machine.specs.declared.thread.{Receiving.Receiving, RunState.{RunState, RunState as state}, Sending.Sending, Tcb.Tcb}
use Rattle.machine.specs.{Authority.label_of, Capabilities.{badged_of, can_read}, Layout.Layout, Machine.{Machine, object_of}}
use Rattle.machine.specs.{Objects.kind_of_object, Releasing.with_blocked, Step.Deliver.{first_at, message_of, sender_in, sent}}
use Rattle.machine.specs.Step.{Find.{find, permitted}, Receive.{awaiting_message, find_named_reply, receive_of, received}}
use Rattle.machine.specs.{Step.Receive.{received_or_waits, with_reply_ended}, WellFormed.{IsSending, IsThread, IsWellFormed, WaitsAt}}
use Rattle.steps.proofs.{Admission.IsCaller, Beside.{ended_endpoint, ended_formed, ended_idle}, Conditions.{both_done, same_ok}}
use Rattle.steps.proofs.{EndpointRow.IsSender, Finding.is_permitted, FoundObjects.endpoint_of_kind, MessageRows.caller_idle}
use Rattle.{policy.specs.{Change.ActorTest, Domain.EdgeTest}, integrity.{specs.Shrinks.IsSame, proofs.Shrinking.same_tcb}}
use Rattle.noninterference.{specs.Fixed.StaysFixed, proofs.{Answering.used_same, Both.{AreBoth, same_find}, Carries.Carries}}
use Rattle.noninterference.proofs.{Carries.{blocked_carries, carries_along}, Ends.{AreMadeAlike, EndsAlike, follows_alike, follows_same}}
use Rattle.noninterference.proofs.{Handing.{ended_carries, named_carries, sent_carries}, Meeting.{IsFirstAt, IsWay, Meets, Meets.nobody}}
use Rattle.noninterference.proofs.{Meeting.{Meets.somebody, meet, sender_before, taken_plain, way_of}, Rows.{caller_too, carried}}
use Rattle.noninterference.proofs.{Rows.{found_same, found_there, to_found}, Staying.{fixed_stays, holder_halted_stays, stays_itself}}
use Rattle.{noninterference.proofs.Waiters.{sender_same, sender_same_too}, flows.specs.Seeing.WayToSee.receives}
use Rattle.machine.specs.declared.object.ReplyState.TheVariants as reply

-- a machine stays fixed when a reply lets go of its thread
ended_stays : (m : Machine) (named : Option ObjId) → StaysFixed m (with_reply_ended m named)
ended_stays m None = stays_itself m
ended_stays m (Some id) = holder_halted_stays m id

no_sending_receiving : (s : Sending) (r : Receiving) → state.Sending s ≡ state.Receiving r → ⊥
no_sending_receiving s r e = cc

module _
    (t : Layout) (allowed : EdgeTest) (acts : ActorTest) (a : ℕ) (m n : Machine) (both : AreBoth t allowed acts a m n) (caller : ObjId)
    (mine : label_of t m caller ≡ Some a) (is : IsCaller m caller) where
  here : IsThread n caller is.thread
  here = caller_too t allowed acts a m n both caller mine is

  abbrev is_too : IsCaller n caller
  is_too = record { thread = is.thread; there = here; ready = is.ready }

  -- an endpoint at which the caller receives, with a reply or none

  named_same : (named : Option ℕ) → find_named_reply n caller named ≡ find_named_reply m caller named
  named_same None = refl
  named_same (Some address) = follows_same _ _ _ _ (same_find t allowed acts a m n both kind.Reply caller address) (λ found e. refl)

  reply_same :
      (named : Option ℕ) (id : Option ObjId) → find_named_reply m caller named ≡ Ok id → (q : ObjId) → id ≡ Some q → IsSame m n q
  reply_same None name e q is_so = absurd (none-some q (same_ok e ∙ is_so))
  reply_same (Some address) name e q is_so =
      let found = both_done (find kind.Reply m caller address) _ name e in
      subst (λ (x : ObjId). IsSame m n x) (same_Some (found.0).1.object q (same_ok found.2 ∙ is_so))
      (used_same t allowed acts a m n both caller mine is address found.0 found.1)

  module _ (address : ℕ) (found : SlotRef × Cap) (e : find kind.Endpoint m caller address ≡ Ok found)
      (u : Unit {0}) (right : permitted (can_read (badged_of found.1.detail).rights) ≡ Ok u) (slot : Option SlotAddress)
      (named : Option ObjId) (same : (q : ObjId) → named ≡ Some q → IsSame m n q) where
    abbrev at : ObjId
    at = found.1.object

    may_read : can_read (badged_of found.1.detail).rights ≡ true
    may_read = is_permitted (can_read (badged_of found.1.detail).rights) u right

    at_same : IsSame m n at
    at_same = found_same t allowed acts a m n both caller mine authority.Receive kind.Endpoint address found e may_read refl (λ l edge. receives edge)

    abbrev mid : Machine
    mid = with_reply_ended m named

    abbrev half : Machine
    half = with_reply_ended n named

    ends_carry : Carries m n mid half
    ends_carry = ended_carries m n both.one.well_formed.links both.other.well_formed.links named same

    mid_formed : IsWellFormed mid
    mid_formed = ended_formed m named both.one.well_formed

    half_formed : IsWellFormed half
    half_formed = ended_formed n named both.other.well_formed

    endpoint : (x : Endpoint) × (object_of m at ≡ Some (o.Endpoint x))
    endpoint =
        endpoint_of_kind (object_of m at) (found_there t allowed acts a m n both caller mine kind.Endpoint address found e)

    mid_there : object_of mid at ≡ Some (o.Endpoint endpoint.0)
    mid_there = ended_endpoint m named both.one.well_formed.links at endpoint.0 endpoint.1

    half_there : object_of half at ≡ Some (o.Endpoint endpoint.0)
    half_there = ended_endpoint n named both.other.well_formed.links at endpoint.0 (at_same.content ∙ endpoint.1)

    mid_caller : IsThread mid caller is.thread
    mid_caller = ended_idle m named both.one.well_formed.links caller is.thread is.there (caller_idle m caller is)

    half_caller : IsThread half caller is.thread
    half_caller = ended_idle n named both.other.well_formed.links caller is.thread here (caller_idle n caller is_too)

    abbrev receiving : Receiving
    receiving = record { endpoint = at; reply = named; slot = slot }

    -- the caller waits, and its reply with it
    awaiting_carries : Carries m n (awaiting_message mid caller receiving) (awaiting_message half caller receiving)
    awaiting_carries =
        let queue = mid_formed.parts.queue at (o.Endpoint endpoint.0) mid_there in
        let blocks = blocked_carries mid half caller at is.thread is.thread (state.Receiving receiving) queue.0 queue.0 mid_caller half_caller
        queue.1 ((ends_carry at at_same).queue ∙ queue.1) refl in
        carries_along m n mid half _ _ ends_carry
        (carries_along mid half (with_blocked mid caller at (state.Receiving receiving)) (with_blocked half caller at (state.Receiving receiving))
        _ _ blocks
        (named_carries (with_blocked mid caller at (state.Receiving receiving)) (with_blocked half caller at (state.Receiving receiving)) named
        (reply.Waiting caller)))

    -- a thread that sends there is the same in both

    sender_of : (x : Machine) (sender : ObjId) (tcb : Tcb) (s : Sending) → IsThread x sender tcb → tcb.state ≡ state.Sending s → WaitsAt tcb.state at → IsSender x at sender s
    sender_of x sender tcb s there so stands = record {
      tcb = tcb;
      there = there;
      state = so;
      at = subst (λ (run : RunState). WaitsAt run at) so stands;
    }

    mid_sender : (sender : ObjId) (one : IsFirstAt mid at sender) (s : Sending) → one.tcb.state ≡ state.Sending s → IsSame m n sender
    mid_sender sender one s so =
        let to = to_found t allowed acts a m n both caller mine kind.Endpoint address found e in
        sender_same t allowed acts a m n both at sender s to.label to.labelled (to.edge authority.Receive may_read refl)
        (sender_of m sender one.tcb s
        (sender_before m named both.one.well_formed.links sender one.tcb one.there (subst IsSending (sym so) tt)) so one.waits)

    half_sender : (sender : ObjId) (one : IsFirstAt half at sender) (s : Sending) → one.tcb.state ≡ state.Sending s → IsSame m n sender
    half_sender sender one s so =
        let to = to_found t allowed acts a m n both caller mine kind.Endpoint address found e in
        sender_same_too t allowed acts a m n both at sender s to.label to.labelled (to.edge authority.Receive may_read refl)
        (sender_of n sender one.tcb s
        (sender_before n named both.other.well_formed.links sender one.tcb one.there (subst IsSending (sym so) tt)) so one.waits)

    -- both take the same message
    takes_alike :
        (sender : ObjId) (one : IsFirstAt mid at sender) (other : IsFirstAt half at sender) → IsSame m n sender → (s : Sending)
        → one.tcb.state ≡ state.Sending s → AreMadeAlike m n (received mid caller receiving) (received half caller receiving)
    takes_alike sender one other alike s so =
        let tcbs : other.tcb ≡ one.tcb =
        same_tcb other.tcb one.tcb
        (same_Some (o.Tcb other.tcb) (o.Tcb one.tcb) (sym other.there ∙ (ends_carry sender alike).content ∙ one.there)) in
        let also : other.tcb.state ≡ state.Sending s = ap (λ (x : Tcb). x.state) tcbs ∙ so in
        let first : sender_in (first_at mid at) ≡ Some (sender, s) = ap sender_in (one.is ∙ ap (λ run. Some (sender, run)) so) in
        let again : sender_in (first_at half at) ≡ Some (sender, s) = ap sender_in (other.is ∙ ap (λ run. Some (sender, run)) also) in
        let mid_takes =
        ap (received_or_waits mid caller receiving) first
        ∙ taken_plain mid (fixed_stays m mid both.fixed (ended_stays m named)) caller receiving sender s in
        let half_takes =
        ap (received_or_waits half caller receiving) again
        ∙ taken_plain half (fixed_stays n half both.fixed_too (ended_stays n named)) caller receiving sender s in
        subst (λ (x : Made × Machine). AreMadeAlike m n x (received half caller receiving)) (sym mid_takes)
        (subst (λ (x : Made × Machine). AreMadeAlike m n (Done (answer.Message (message_of s false)), sent mid sender s named) x)
        (sym half_takes) (
          refl,
          carried m n _ _
              (carries_along m n mid half _ _ ends_carry
              (sent_carries mid half sender one.tcb other.tcb one.there other.there mid_formed.links half_formed.links s named)),
        ))

    none_sends :
        sender_in (first_at mid at) ≡ None → sender_in (first_at half at) ≡ None
        → AreMadeAlike m n (received mid caller receiving) (received half caller receiving)
    none_sends none also = rw (none, also) (refl, carried m n _ _ awaiting_carries)

    received_alike : AreMadeAlike m n (received mid caller receiving) (received half caller receiving)
    received_alike =
        by_met
        (meet mid half at mid_formed.links half_formed.links (ap (option_map kind_of_object) mid_there)
        (ap (option_map kind_of_object) half_there) (ends_carry at at_same).queue)
      where
        by_ways :
            (sender : ObjId) (one : IsFirstAt mid at sender) (other : IsFirstAt half at sender) → IsWay one.tcb.state → IsWay other.tcb.state
            → AreMadeAlike m n (received mid caller receiving) (received half caller receiving)
        by_ways sender one other (inl s) way = takes_alike sender one other (mid_sender sender one s.0 s.1) s.0 s.1
        by_ways sender one other (inr r) (inl s) =
            let alike = half_sender sender other s.0 s.1 in
            let tcbs : other.tcb ≡ one.tcb =
            same_tcb other.tcb one.tcb
            (same_Some (o.Tcb other.tcb) (o.Tcb one.tcb) (sym other.there ∙ (ends_carry sender alike).content ∙ one.there)) in
            absurd (no_sending_receiving s.0 r.0 (sym s.1 ∙ ap (λ (x : Tcb). x.state) tcbs ∙ r.1))
        by_ways sender one other (inr r) (inr v) =
            none_sends (ap sender_in (one.is ∙ ap (λ run. Some (sender, run)) r.1)) (ap sender_in (other.is ∙ ap (λ run. Some (sender, run)) v.1))

        by_met : Meets mid half at → AreMadeAlike m n (received mid caller receiving) (received half caller receiving)
        by_met (nobody none also) = none_sends (ap sender_in none) (ap sender_in also)
        by_met (somebody sender one other) = by_ways sender one other (way_of one.tcb.state one.way) (way_of other.tcb.state other.way)

  pub receive_alike :
      (address : ℕ) (named : Option ℕ) (slot : Option SlotAddress)
      → EndsAlike m n (receive_of m caller address named slot) (receive_of n caller address named slot)
  unfolding receive_of
  receive_alike address named slot =
      follows_alike m n _ _ _ _ (same_find t allowed acts a m n both kind.Endpoint caller address)
      (λ found e.
      follows_alike m n (permitted (can_read (badged_of found.1.detail).rights)) _ _ _ refl
      (λ u right.
      follows_alike m n _ _ _ _ (named_same named)
      (λ id f. received_alike address found e u right slot id (reply_same named id f))))
