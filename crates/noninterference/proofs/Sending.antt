-- Sends and calls end alike in two machines that are alike to their label: the same thread waits first at the endpoint in both, and it
-- receives in both or in neither.
use Rattle.std.{specs.Prelude.{None, Ok, Option, Some, if◌then◌else◌}, proofs.Common.{ℕ, ◌∙◌, ◌≡◌, ◌≢◌, Bool, List, ap, false}}
use Rattle.std.proofs.{Common.{inl, inr, option_map, refl, subst, sym, true}, lemmas.{Bool.and_from, Option.{none-some, same_Some}}}
use Rattle.base.specs.declared.{ids.{ObjId.ObjId, SlotRef.SlotRef}, kind.Kind.Kind as authority}
use Rattle.machine.specs.declared.{cap.Cap.Cap, object.{Object.Object as o, ObjectKind.ObjectKind as kind}}
use Rattle.machine.specs.declared.thread.{Lent.Lent, Receiving.Receiving, RunState.{RunState, RunState as state}, Sending.Sending, Tcb.Tcb}
use Rattle.machine.specs.{Authority.label_of, Capabilities.{badged_of, can_write}, Layout.Layout, Machine.{Machine, object_of}}
use Rattle.machine.specs.{Objects.kind_of_object, Releasing.{given, with_blocked, with_called, with_given, with_halted}}
use Rattle.machine.specs.Step.{Bind.context_under, Deliver.{delivered, first_at, message_of, receiver_in, sending_by}}
use Rattle.machine.specs.Step.{Find.{find, permitted}, Send.{called_or_waits, called_through, endpoint_call_of, loan, loan_made, send_of}}
use Rattle.machine.specs.{Step.Send.{sent_or_waits, with_lent}, WellFormed.{IsFree, IsSending, IsThread, IsWellFormed, WaitsAt, kind_of}}
use Rattle.steps.proofs.{Admission.IsCaller, EndpointRow.IsReceiver, Finding.is_permitted, FoundObjects.endpoint_of_kind, Lending.lends}
use Rattle.steps.proofs.MessageRows.{caller_apart, delivered_formed, delivered_free, delivered_other, delivered_there}
use Rattle.{steps.proofs.MessageRows.{waits_formed, waits_other, waits_there}, policy.specs.{Change.ActorTest, Domain.EdgeTest}}
use Rattle.{integrity.{specs.Shrinks.IsSame, proofs.Shrinking.same_tcb}, flows.specs.Seeing.WayToSee.sends}
use Rattle.noninterference.{specs.Alike.KeepsAlike, proofs.Both.{AreBoth, own_same, same_find}}
use Rattle.noninterference.proofs.Carries.{Carries, blocked_carries, carries_along, released_carries}
use Rattle.noninterference.proofs.{Ends.{AreMadeAlike, EndsAlike, follows_alike}, Handing.{halted_carries, halts_calls, lent_carries}}
use Rattle.noninterference.proofs.Meeting.{IsFirstAt, IsWay, Meets, Meets.{nobody, somebody}, delivered_plain, meet, way_of}
use Rattle.noninterference.proofs.{Rows.{caller_too, carried, found_same, found_there, found_too, to_found}, Waiters.receiver_same}

same_receiving : (one other : Receiving) → state.Receiving one ≡ state.Receiving other → one ≡ other
same_receiving one other e = cc

module _
    (t : Layout) (allowed : EdgeTest) (acts : ActorTest) (a : ℕ) (m n : Machine) (both : AreBoth t allowed acts a m n) (caller : ObjId)
    (mine : label_of t m caller ≡ Some a) (is : IsCaller m caller) where
  here : IsThread n caller is.thread
  here = caller_too t allowed acts a m n both caller mine is

  -- an endpoint to which the caller sends
  module _ (address : ℕ) (found : SlotRef × Cap) (e : find kind.Endpoint m caller address ≡ Ok found)
      (u : Unit {0}) (right : permitted (can_write (badged_of found.1.detail).rights) ≡ Ok u) (is_call : Bool) (words : List ℕ)
      (capability : Option ℕ) where
    abbrev id : ObjId
    id = found.1.object

    abbrev sending : Sending
    sending = sending_by id (badged_of found.1.detail) is_call words capability

    may_write : can_write (badged_of found.1.detail).rights ≡ true
    may_write = is_permitted (can_write (badged_of found.1.detail).rights) u right

    end_same : IsSame m n id
    end_same = found_same t allowed acts a m n both caller mine authority.Send kind.Endpoint address found e may_write refl (λ l edge. sends edge)

    end_there : kind_of m id ≡ Some kind.Endpoint
    end_there = found_there t allowed acts a m n both caller mine kind.Endpoint address found e

    end_too : kind_of n id ≡ Some kind.Endpoint
    end_too = found_too t allowed acts a m n both caller mine kind.Endpoint address found e

    met : Meets m n id
    met = meet m n id both.one.well_formed.links both.other.well_formed.links end_there end_too end_same.queue

    -- the thread that waits first waits in the same way in both
    same_way : (first : ObjId) (one : IsFirstAt m id first) (other : IsFirstAt n id first) → IsSending one.tcb.state → IsSending other.tcb.state
    same_way first one other =
        let to = to_found t allowed acts a m n both caller mine kind.Endpoint address found e in
        (both.alike.meets id first one.tcb other.tcb to.label to.labelled (to.edge authority.Send may_write refl) one.there other.there
        one.waits other.waits).0

    same_way_back :
        (first : ObjId) (one : IsFirstAt m id first) (other : IsFirstAt n id first) → IsSending other.tcb.state → IsSending one.tcb.state
    same_way_back first one other =
        let to = to_found t allowed acts a m n both caller mine kind.Endpoint address found e in
        (both.alike.meets id first one.tcb other.tcb to.label to.labelled (to.edge authority.Send may_write refl) one.there other.there
        one.waits other.waits).1

    -- the caller waits
    waiting_carries : Carries m n (with_blocked m caller id (state.Sending sending)) (with_blocked n caller id (state.Sending sending))
    waiting_carries =
        let endpoint = endpoint_of_kind (object_of m id) end_there in
        let queue = both.one.well_formed.parts.queue id (o.Endpoint endpoint.0) endpoint.1 in
        blocked_carries m n caller id is.thread is.thread (state.Sending sending) queue.0 queue.0 is.there here queue.1
        (end_same.queue ∙ queue.1) refl

    -- or the message is delivered
    module _ (receiver : ObjId) (one : IsFirstAt m id receiver) (other : IsFirstAt n id receiver) (receiving again : Receiving) where
      delivered_carries : Carries m n (delivered m caller sending receiver receiving) (delivered n caller sending receiver again)
      delivered_carries =
          subst (λ (x : Machine). Carries m n x (delivered n caller sending receiver again))
          (sym (delivered_plain m both.fixed caller sending receiver receiving))
          (subst (λ (x : Machine). Carries m n (with_given m receiver (message_of sending false)) x)
          (sym (delivered_plain n both.fixed_too caller sending receiver again))
          (released_carries m n receiver one.tcb other.tcb (given (message_of sending false)) both.one.well_formed.links
          both.other.well_formed.links one.there other.there))

    -- nobody waits there to receive in either machine, or the same thread does in both
    data Ways : Type 0 where
      waits : receiver_in (first_at m id) ≡ None → receiver_in (first_at n id) ≡ None → Ways
      goes :
          (receiver : ObjId) (receiving again : Receiving) (one : IsFirstAt m id receiver) (other : IsFirstAt n id receiver)
          → one.tcb.state ≡ state.Receiving receiving → other.tcb.state ≡ state.Receiving again
          → receiver_in (first_at m id) ≡ Some (receiver, receiving) → receiver_in (first_at n id) ≡ Some (receiver, again) → Ways

    sending_is : (run : RunState) (s : Sending) → run ≡ state.Sending s → IsSending run
    sending_is run s is = subst IsSending (sym is) tt

    receiving_not : (run : RunState) (r : Receiving) → run ≡ state.Receiving r → IsSending run → ⊥
    receiving_not run r is so = subst IsSending is so

    ways : Ways
    ways = by_met met where
      by_ways :
          (first : ObjId) (one : IsFirstAt m id first) (other : IsFirstAt n id first) → IsWay one.tcb.state → IsWay other.tcb.state → Ways
      by_ways first one other (inl s) (inl v) =
          waits (ap receiver_in (one.is ∙ ap (λ run. Some (first, run)) s.1)) (ap receiver_in (other.is ∙ ap (λ run. Some (first, run)) v.1))
      by_ways first one other (inl s) (inr r) =
          absurd (receiving_not other.tcb.state r.0 r.1 (same_way first one other (sending_is one.tcb.state s.0 s.1)))
      by_ways first one other (inr r) (inl s) =
          absurd (receiving_not one.tcb.state r.0 r.1 (same_way_back first one other (sending_is other.tcb.state s.0 s.1)))
      by_ways first one other (inr r) (inr v) =
          goes first r.0 v.0 one other r.1 v.1 (ap receiver_in (one.is ∙ ap (λ run. Some (first, run)) r.1))
          (ap receiver_in (other.is ∙ ap (λ run. Some (first, run)) v.1))

      by_met : Meets m n id → Ways
      by_met (nobody none also) = waits (ap receiver_in none) (ap receiver_in also)
      by_met (somebody first one other) = by_ways first one other (way_of one.tcb.state one.way) (way_of other.tcb.state other.way)

    sent_alike :
        AreMadeAlike m n (sent_or_waits m caller sending (receiver_in (first_at m id))) (sent_or_waits n caller sending (receiver_in (first_at n id)))
    sent_alike = by_ways ways where
      by_ways :
          Ways
          → AreMadeAlike m n (sent_or_waits m caller sending (receiver_in (first_at m id)))
          (sent_or_waits n caller sending (receiver_in (first_at n id)))
      by_ways (waits none also) = rw (none, also) (refl, carried m n _ _ waiting_carries)
      by_ways (goes receiver receiving again one other r v is too) =
          rw (is, too) (refl, carried m n _ _ (delivered_carries receiver one other receiving again))

    -- a call that is delivered
    module _
        (receiver : ObjId) (receiving again : Receiving) (one : IsFirstAt m id receiver) (other : IsFirstAt n id receiver)
        (r : one.tcb.state ≡ state.Receiving receiving) (v : other.tcb.state ≡ state.Receiving again) where
      it : IsReceiver m id receiver receiving
      it = record {
        tcb = one.tcb;
        there = one.there;
        state = r;
        at = subst (λ (run : RunState). WaitsAt run id) r one.waits;
      }

      it_too : IsReceiver n id receiver again
      it_too = record {
        tcb = other.tcb;
        there = other.there;
        state = v;
        at = subst (λ (run : RunState). WaitsAt run id) v other.waits;
      }

      abbrev one_after : Machine
      one_after = delivered m caller sending receiver receiving

      abbrev other_after : Machine
      other_after = delivered n caller sending receiver again

      one_formed : IsWellFormed one_after
      one_formed = delivered_formed m caller sending id receiver receiving both.one.well_formed it

      other_formed : IsWellFormed other_after
      other_formed = delivered_formed n caller sending id receiver again both.other.well_formed it_too

      apart : caller ≢ receiver
      apart = caller_apart m caller id receiver receiving is it

      one_caller : IsThread one_after caller is.thread
      one_caller = delivered_other m caller sending id receiver receiving both.one.well_formed it caller is.thread apart is.there

      other_caller : IsThread other_after caller is.thread
      other_caller = delivered_other n caller sending id receiver again both.other.well_formed it_too caller is.thread apart here

      delivers : Carries m n one_after other_after
      delivers = delivered_carries receiver one other receiving again

      halts : Carries one_after other_after (with_halted one_after caller) (with_halted other_after caller)
      halts =
          halted_carries one_after other_after caller is.thread is.thread one_caller other_caller one_formed.links other_formed.links

      -- it waits through a reply that the receiver named, which is the same in both
      module _ (q : ObjId) (named : receiving.reply ≡ Some q) (named_too : again.reply ≡ Some q) (same : IsSame m n receiver) where
        abbrev lent : Option Lent
        lent = loan_made one_after caller receiver

        loans : loan_made other_after caller receiver ≡ lent
        loans =
            let caller_now = (delivers caller (own_same t allowed acts a m n both caller mine)).content in
            let receiver_now = (delivers receiver same).content in
            λ i. loan (context_under (caller_now i)) (context_under (receiver_now i)) receiver

        one_free : IsFree one_after q
        one_free = delivered_free m caller sending id receiver receiving both.one.well_formed it q named

        other_free : IsFree other_after q
        other_free = delivered_free n caller sending id receiver again both.other.well_formed it_too q named_too

        abbrev one_waits : Machine
        one_waits = with_called (with_halted one_after caller) caller (record { reply = q; lent = lent })

        abbrev other_waits : Machine
        other_waits = with_called (with_halted other_after caller) caller (record { reply = q; lent = lent })

        lends_alike : Carries one_waits other_waits (with_lent one_waits caller lent) (with_lent other_waits caller lent)
        lends_alike =
            let one_there = delivered_there m caller sending id receiver receiving both.one.well_formed it in
            let other_there = delivered_there n caller sending id receiver again both.other.well_formed it_too in
            lent_carries one_waits other_waits caller receiver
            (record is.thread { state = state.Called (record { reply = q; lent = lent }) })
            (waits_formed one_after caller q lent is.thread one_formed one_caller one_free).links
            (waits_formed other_after caller q lent is.thread other_formed other_caller other_free).links
            (waits_there one_after caller q lent is.thread one_formed one_caller one_free)
            (waits_there other_after caller q lent is.thread other_formed other_caller other_free)
            (ap (option_map kind_of_object)
            (waits_other one_after caller q lent is.thread one_formed one_caller one_free receiver _ (λ e. apart (sym e)) one_there))
            (ap (option_map kind_of_object)
            (waits_other other_after caller q lent is.thread other_formed other_caller other_free receiver _ (λ e. apart (sym e)) other_there))
            lent (λ loan e. (lends one_after caller receiver loan e).borrower)

        through_alike :
            Carries one_after other_after (called_through one_after caller receiver (Some q)) (called_through other_after caller receiver (Some q))
        through_alike =
            subst
            (λ (l : Option Lent).
            Carries one_after other_after (with_lent one_waits caller lent)
            (with_lent (with_called (with_halted other_after caller) caller (record { reply = q; lent = l })) caller l))
            (sym loans)
            (carries_along one_after other_after one_waits other_waits _ _
            (halts_calls one_after other_after caller is.thread is.thread one_caller other_caller one_formed.links other_formed.links
            (record { reply = q; lent = lent }))
            lends_alike)

      -- the receiver is the same in both if the call may be answered
      answers_alike : sending.can_reply ≡ true → IsSame m n receiver × (again ≡ receiving)
      answers_alike leave =
          let to = to_found t allowed acts a m n both caller mine kind.Endpoint address found e in
          let calls : allowed a authority.Call to.label ≡ true =
          to.edge authority.Call (and_from (can_write (badged_of found.1.detail).rights) _ may_write leave) refl in
          let same = receiver_same t allowed acts a m n both id receiver receiving to.label to.labelled calls it in
          let tcbs : other.tcb ≡ one.tcb =
          same_tcb other.tcb one.tcb (same_Some (o.Tcb other.tcb) (o.Tcb one.tcb) (sym other.there ∙ same.content ∙ one.there)) in
          (same, same_receiving again receiving (sym v ∙ ap (λ (x : Tcb). x.state) tcbs ∙ r))

      through_carries :
          (leave : Bool) → sending.can_reply ≡ leave
          → Carries one_after other_after (called_through one_after caller receiver (if leave then receiving.reply else None))
          (called_through other_after caller receiver (if leave then again.reply else None))
      through_carries false leaves = halts
      through_carries true leaves = by_named receiving.reply again.reply refl refl where
        by_named :
            (x y : Option ObjId) → receiving.reply ≡ x → again.reply ≡ y
            → Carries one_after other_after (called_through one_after caller receiver x) (called_through other_after caller receiver y)
        by_named None None f g = halts
        by_named None (Some q) f g =
            absurd (none-some q (sym f ∙ ap (λ (w : Receiving). w.reply) (sym (answers_alike leaves).1) ∙ g))
        by_named (Some q) None f g =
            absurd (none-some q (sym g ∙ ap (λ (w : Receiving). w.reply) (answers_alike leaves).1 ∙ f))
        by_named (Some q) (Some p) f g =
            let also : again.reply ≡ Some q = ap (λ (w : Receiving). w.reply) (answers_alike leaves).1 ∙ f in
            subst (λ (x : Option ObjId). Carries one_after other_after (called_through one_after caller receiver (Some q)) (called_through other_after caller receiver x))
            (sym also ∙ g) (through_alike q f also (answers_alike leaves).0)

      call_carries :
          Carries m n (called_or_waits m caller sending (Some (receiver, receiving))) (called_or_waits n caller sending (Some (receiver, again)))
      call_carries = carries_along m n one_after other_after _ _ delivers (through_carries sending.can_reply refl)

    called_alike :
        KeepsAlike m n (called_or_waits m caller sending (receiver_in (first_at m id))) (called_or_waits n caller sending (receiver_in (first_at n id)))
    called_alike = by_ways ways where
      by_ways :
          Ways
          → KeepsAlike m n (called_or_waits m caller sending (receiver_in (first_at m id)))
          (called_or_waits n caller sending (receiver_in (first_at n id)))
      by_ways (waits none also) = rw (none, also) (carried m n _ _ waiting_carries)
      by_ways (goes receiver receiving again one other r v is_so too) =
          rw (is_so, too) (carried m n _ _ (call_carries receiver receiving again one other r v))

  pub send_alike :
      (address : ℕ) (words : List ℕ) (capability : Option ℕ)
      → EndsAlike m n (send_of m caller address words capability) (send_of n caller address words capability)
  unfolding send_of
  send_alike address words capability =
      follows_alike m n _ _ _ _ (same_find t allowed acts a m n both kind.Endpoint caller address)
      (λ found e.
      follows_alike m n (permitted (can_write (badged_of found.1.detail).rights)) _ _ _ refl
      (λ u right. sent_alike address found e u right false words capability))

  pub endpoint_call_alike :
      (address : ℕ) (words : List ℕ) (capability : Option ℕ)
      → EndsAlike m n (endpoint_call_of m caller address words capability) (endpoint_call_of n caller address words capability)
  unfolding endpoint_call_of
  endpoint_call_alike address words capability =
      follows_alike m n _ _ _ _ (same_find t allowed acts a m n both kind.Endpoint caller address)
      (λ found e.
      follows_alike m n (permitted (can_write (badged_of found.1.detail).rights)) _ _ _ refl
      (λ u right. (refl, called_alike address found e u right true words capability)))
