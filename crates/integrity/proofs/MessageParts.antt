-- Parts of a message's way, and what they keep: a receiver gets it, the caller waits for the answer, and the thread of a reply is halted.
-- They take only what a label has over an endpoint or a reply that is found, and the recorded edges of the threads there.
use Rattle.std.{specs.Prelude.{if◌then◌else◌, is_ok}, proofs.Common.{ℕ, ◌&&◌, ◌<◌, ◌∙◌, ◌≡◌, ◌≢◌, ◌⊎◌, Bool, List}}
use Rattle.std.proofs.Common.{None, Option, Some, ap, arith, false, inl, inr, option_map, refl, subst, sym, true}
use Rattle.std.proofs.lemmas.{Bool.and_from, Option.{none-some, same_Some}}
use Rattle.base.specs.{declared.{ids.ObjId.ObjId, kind.Kind.{Kind, Kind as authority}}, Kinds.is_structural}
use Rattle.machine.specs.declared.{call.Event.Event, cap.Detail.Detail, object.{Object.{Object, Object as o}, Reply.Reply}}
use Rattle.machine.specs.declared.thread.{Lent.Lent, Message.Message, Receiving.Receiving, RunState.RunState, Sending.Sending, Tcb.Tcb}
use Rattle.machine.specs.{Authority.{HasAuthority.by_link, holds_thread, label_of, links, names_object, state_links}, Capabilities.gives}
use Rattle.machine.specs.{Changes.{with_tcb, with_waiting}, Finalising.halted, Layout.Layout, Machine.{Machine, object_of, queue_of}}
use Rattle.machine.specs.{Machine.same_id, Releasing.{given, with_blocked, with_called, with_given, with_halted, with_holder_halted}}
use Rattle.machine.specs.Step.Deliver.{answer_through, arrival_of, delivered, linked, message_of, with_arrival}
use Rattle.machine.specs.WellFormed.{IsCallingThrough, IsFree, IsReceivingWith, IsThread, WaitsAt}
use Rattle.machine.proofs.{Ids.{at_other, itself}, Leaving.Names, LookUps.{object_of-with_object, object_of-with_queue}}
use Rattle.steps.proofs.{Arrival.arrival_same, Beside.{HolderLeaves, holder_leaves}, EndpointRow.{IsReceiver, IsSender}}
use Rattle.steps.proofs.{Finding.FindsObject, MessageRows.{arrived_there, delivered_is, halted_between}}
use Rattle.policy.specs.{Change.{MayHoldCaller, WayToChange.{modifies, replies, sends}}, Domain.EdgeTest}
use Rattle.policy.specs.{NarrowTake.WayToShrink.{ends, frees, halts as halts_waiting}, Sharp.UsesRise}
use Rattle.integrity.specs.{Acting.MayAct, Awake.{CallersAreServed, IsAwake, IsServed, OthersSleep}, Invariant.{IsHeld, IsSound}}
use Rattle.integrity.specs.{Keeping.{IsIdleBorrower, IsSharp}, Shrinks.{IsBlocked, Stops.halted as is_halted}}
use Rattle.integrity.proofs.{ArrivalKeeps.arrival_keeps, Asleep.blocked_acts, Awake.blocked_actor}
use Rattle.integrity.proofs.{Borrowers.borrower_stays, Held.held_of, Keeps.{Changes, Keeps, Takes, keeps_keeps, unchanged}}
use Rattle.integrity.proofs.MessageTouches.{MayHold, MayLessen, MayRelease, called_keeps, released_keeps}
use Rattle.integrity.proofs.{ObjectLabels.{label_stays, labelled_there, same_label}, Reach.found_in_reach}
use Rattle.machine.specs.declared.object.ReplyState.TheVariants as reply
use Rattle.machine.specs.declared.thread.RunState.TheVariants as state

-- an answer goes through a reply only if the sender may be answered
pub answers_allowed :
    (sending : Sending) (named : Option ObjId) (id : ObjId) → answer_through sending named ≡ Some id → sending.can_reply ≡ true
answers_allowed sending named id e = by_leave sending.can_reply refl where
  by_leave : (leave : Bool) → sending.can_reply ≡ leave → sending.can_reply ≡ true
  by_leave true is = is
  by_leave false is = absurd (none-some id (sym (ap (λ (b : Bool). if b then named else None) is) ∙ e))

-- a thread that names a reply is blocked
pub names_blocked : (run : RunState) (id : ObjId) → Names run id → IsBlocked run
names_blocked (state.Receiving receiving) id names = tt
names_blocked (state.Called calling) id names = tt
names_blocked _ id names = absurd names

-- a thread that comes to wait changes no other object

waiting_beside : (m : Machine) (id thread q : ObjId) → object_of (with_waiting m id thread) q ≡ object_of m q
unfolding with_waiting
waiting_beside m id thread q = by_queue (queue_of m id) refl where
  by_queue : (queue : Option (List ObjId)) → queue_of m id ≡ queue → object_of (with_waiting m id thread) q ≡ object_of m q
  by_queue None e = rw e refl
  by_queue (Some threads) e = rw e (object_of-with_queue m id _ q)

tcb_beside :
    (m : Machine) (thread : ObjId) (tcb new : Tcb) (q : ObjId) → IsThread m thread tcb → q ≢ thread
    → object_of (with_tcb m thread new) q ≡ object_of m q
unfolding with_tcb
tcb_beside m thread tcb new q there apart =
    rw there (object_of-with_object m thread (o.Tcb new) q ∙ at_other q thread (Some (o.Tcb new)) (object_of m q) apart)

pub blocked_beside :
    (m : Machine) (thread id : ObjId) (tcb : Tcb) (run : RunState) (q : ObjId) → IsThread m thread tcb → q ≢ thread
    → object_of (with_blocked m thread id run) q ≡ object_of m q
unfolding with_blocked
blocked_beside m thread id tcb run q there apart =
    rw there
    (waiting_beside (with_tcb m thread (record tcb { state = run })) id thread q
    ∙ tcb_beside m thread tcb (record tcb { state = run }) q there apart)

module _ (t : Layout) (allowed : EdgeTest) (began : Machine) (event : Event) (a : ℕ) where
  abbrev Does : Machine → Machine → Type 0
  Does m next = Keeps t allowed began event a m next

  -- the label of what is there before and after stays
  pub label_kept :
      (m next : Machine) (id : ObjId) (old new : Object) → Does m next → object_of m id ≡ Some old → object_of next id ≡ Some new
      → label_of t next id ≡ label_of t m id
  label_kept m next id old new keeps was is = label_stays t m next id old new was is (keeps.stays id old new was is).1

  pub same_kept :
      (m next : Machine) (id : ObjId) (before after : ℕ) → Does m next → label_of t m id ≡ Some before
      → label_of t next id ≡ Some after → after ≡ before
  same_kept m next id before after keeps was is =
      let old = labelled_there t m id before was in
      let new = labelled_there t next id after is in
      same_Some after before (sym is ∙ label_kept m next id old.0 new.0 keeps old.1 new.1 ∙ was)

  pub borrower_kept :
      (m next : Machine) (lent : Lent) → Does m next → IsIdleBorrower t allowed m lent → IsIdleBorrower t allowed next lent
  borrower_kept m next lent keeps before =
      borrower_stays t allowed m next lent keeps.grows
      (λ label labelled.
      let new = labelled_there t next lent.borrower label labelled in
      by_content label labelled new.0 new.1 (object_of m lent.borrower) refl) before
    where
      by_content :
          (label : ℕ) → label_of t next lent.borrower ≡ Some label → (new : Object) → object_of next lent.borrower ≡ Some new
          → (content : Option Object) → object_of m lent.borrower ≡ content → label_of t m lent.borrower ≡ Some label
      by_content label labelled new is None gone =
          let high = keeps.born lent.borrower new gone is in let low = before.number in absurd (omega (arith, low, high))
      by_content label labelled new is (Some old) was = sym (label_kept m next lent.borrower old new keeps was is) ∙ labelled

  -- a caller whose label is served is one that a reply may hold
  pub held_caller :
      (awake : IsAwake t allowed began a) (r l : ℕ) → IsServed t allowed r l → allowed r authority.Holds l ≡ true
      → awake.acts l ≡ true → MayHoldCaller allowed awake.acts r l
  held_caller awake r l served holds waits = record {
    holds = holds;
    server = served.server;
    names = served.names;
    serves = awake.actors served.server served.serves served.threads;
    endpoint = served.endpoint;
    receives = served.receives;
    calls = served.calls;
    waits = waits;
  }

  -- a machine of the run
  module _ (m : Machine) (sound : IsSound t allowed m) where
    held : IsHeld t allowed m
    held = held_of t allowed m sound

    pub thread_label : (thread : ObjId) (tcb : Tcb) → IsThread m thread tcb → (label : ℕ) × (label_of t m thread ≡ Some label)
    thread_label thread tcb there = sound.of_table.labelled thread (o.Tcb tcb) there

    -- what a blocked thread keeps is in the policy
    pub thread_edge :
        (thread end : ObjId) (tcb : Tcb) (k : Kind) (from to : ℕ) → IsThread m thread tcb → links (o.Tcb tcb) k end ≡ true
        → label_of t m thread ≡ Some from → label_of t m end ≡ Some to → allowed from k to ≡ true
    thread_edge thread end tcb k from to there has source target =
        sound.confined from k to (by_link thread end (o.Tcb tcb) there has source target)

    -- the edge from a reply to the thread that it holds is in the policy
    pub holds_edge :
        (id thread : ObjId) (answers : Reply) (from to : ℕ) → object_of m id ≡ Some (o.Reply answers)
        → holds_thread answers.state thread ≡ true → label_of t m id ≡ Some from → label_of t m thread ≡ Some to
        → allowed from authority.Holds to ≡ true
    holds_edge id thread answers from to there has source target =
        sound.confined from authority.Holds to (by_link id thread (o.Reply answers) there has source target)

    module _ (id receiver : ObjId) (receiving : Receiving) (is : IsReceiver m id receiver receiving) (b : ℕ)
        (labelled : label_of t m receiver ≡ Some b) where
      pub receiver_receives : (e : ℕ) → label_of t m id ≡ Some e → allowed b authority.Receive e ≡ true
      receiver_receives e at =
          thread_edge receiver id is.tcb authority.Receive b e is.there
          (ap (λ run. state_links run authority.Receive id) is.state ∙ ap (λ (i : ObjId). same_id i id) is.at ∙ itself id)
          labelled at

      pub receiver_replies :
          (named : ObjId) (r : ℕ) → receiving.reply ≡ Some named → label_of t m named ≡ Some r
          → allowed b authority.Reply r ≡ true
      receiver_replies named r names at =
          thread_edge receiver named is.tcb authority.Reply b r is.there
          (ap (λ run. state_links run authority.Reply named) is.state ∙ ap (λ n. names_object n named) names ∙ itself named)
          labelled at

    module _ (id sender : ObjId) (sending : Sending) (is : IsSender m id sender sending) (s e : ℕ)
        (labelled : label_of t m sender ≡ Some s) (at : label_of t m id ≡ Some e) where
      waits_there : same_id sending.endpoint id ≡ true
      waits_there = ap (λ (i : ObjId). same_id i id) is.at ∙ itself id

      pub sender_sends : allowed s authority.Send e ≡ true
      sender_sends =
          thread_edge sender id is.tcb authority.Send s e is.there
          (ap (λ run. state_links run authority.Send id) is.state ∙ waits_there)
          labelled at

      pub sender_grants : sending.grant ≡ true → allowed s authority.Grant e ≡ true
      sender_grants grants =
          thread_edge sender id is.tcb authority.Grant s e is.there
          (ap (λ run. state_links run authority.Grant id) is.state ∙ and_from sending.grant _ grants waits_there) labelled at

      pub sender_calls : sending.is_call ≡ true → sending.can_reply ≡ true → allowed s authority.Call e ≡ true
      sender_calls calls answers =
          thread_edge sender id is.tcb authority.Call s e is.there
          (ap (λ run. state_links run authority.Call id) is.state
          ∙ and_from (sending.is_call && sending.can_reply) _ (and_from sending.is_call sending.can_reply calls answers)
          waits_there)
          labelled at

    -- the label has what a found capability gives over its object's
    pub record IsReached (id : ObjId) (detail : Detail) : Type 0 where
      pub label : ℕ
      pub labelled : label_of t m id ≡ Some label
      pub edge : (k : Kind) → gives detail k ≡ true → is_structural k ≡ false → allowed a k label ≡ true

    pub reached :
        (rise : UsesRise allowed) (thread : ObjId) (address : ℕ) (id : ObjId) (detail : Detail)
        → label_of t m thread ≡ Some a → FindsObject m thread address id detail → IsReached id detail
    reached rise thread address id detail mine h =
        let found = found_in_reach t allowed m held rise a thread address h.slot h.finds.left h.held mine h.finds.ends h.finds.holds in
        record {
          label = found.label;
          labelled = ap (label_of t m) (sym h.object) ∙ found.labelled;
          edge = λ k given. found.edge k (ap (λ x. gives x k) h.detail ∙ given);
        }

    pub at_reached : (id q : ObjId) (label to : ℕ) → label_of t m id ≡ Some label → id ≡ q → label_of t m q ≡ Some to → to ≡ label
    at_reached id q label to labelled same target = same_Some to label (sym target ∙ ap (label_of t m) (sym same) ∙ labelled)

    -- a message is given to a receiver
    module _ (closed : IsSharp t allowed) (sender : ObjId) (sending : Sending) (id receiver : ObjId) (receiving : Receiving)
        (mine : label_of t m sender ≡ Some a) (is : IsReceiver m id receiver receiving) (e : ℕ) (at : label_of t m id ≡ Some e)
        (may_send : allowed a authority.Send e ≡ true)
        (may_grant : sending.grant ≡ true → allowed a authority.Grant e ≡ true)
        (others : IsAwake t allowed began a → OthersSleep t allowed m) where
      abbrev mid : Machine
      mid = with_arrival m (arrival_of m sender sending receiver receiving.slot)

      abbrev message : Message
      message = message_of sending (is_ok (arrival_of m sender sending receiver receiving.slot))

      to_receiver : (label : ℕ) × (label_of t m receiver ≡ Some label)
      to_receiver = thread_label receiver is.tcb is.there

      -- its label may act, since it is blocked
      it_acts : IsAwake t allowed began a → MayAct t allowed to_receiver.0
      it_acts awake =
          blocked_acts t allowed m receiver is.tcb (others awake) is.there (subst IsBlocked (sym is.state) tt) to_receiver.0
          to_receiver.1

      it_receives : allowed to_receiver.0 authority.Receive e ≡ true
      it_receives = receiver_receives id receiver receiving is to_receiver.0 to_receiver.1 e at

      it_actor : (awake : IsAwake t allowed began a) → awake.acts to_receiver.0 ≡ true
      it_actor awake =
          blocked_actor t allowed began m a awake (others awake) sound.of_table receiver is.tcb is.there
          (subst IsBlocked (sym is.state) tt) to_receiver.0 to_receiver.1

      -- the reply that the receiver names only loses it
      named_taken :
          (named : ObjId) (r : ℕ) → receiving.reply ≡ Some named → label_of t m named ≡ Some r
          → MayLessen t allowed began a mid named r
      named_taken named r names labelled =
          let w =
          sound.well_formed.links.receiver_reply receiver named is.tcb is.there
          (subst (λ run. IsReceivingWith run named) (sym is.state) names) in
          let queue =
          sound.well_formed.parts.queue named (o.Reply (record { address = w.0; state = reply.Waiting receiver })) w.1 in
          inr (
            λ awake.
                frees e to_receiver.0 may_send it_receives (it_actor awake)
                (receiver_replies id receiver receiving is to_receiver.0 to_receiver.1 named r names labelled),
            queue.0,
            (arrival_same m sender sending receiver receiving.slot sound.well_formed named).1 ∙ queue.1,
          )

      arrives : Does m mid
      arrives =
          arrival_keeps t allowed began event a m sound closed sender sending receiver receiving.slot a to_receiver.0 e mine
          to_receiver.1 may_grant it_receives
          (inl (refl, it_actor))

      label_mid : (q : ObjId) → label_of t mid q ≡ label_of t m q
      label_mid q = same_label t m mid q (arrival_same m sender sending receiver receiving.slot sound.well_formed q).0

      gives_it : Does mid (with_given mid receiver message)
      gives_it =
          released_keeps t allowed began event a mid arrives.held receiver is.tcb (given message)
          (arrived_there m sender sending id receiver receiving sound.well_formed is) refl refl tt to_receiver.0
          (label_mid receiver ∙ to_receiver.1)
          (inl (λ awake. sends e may_send it_receives (it_actor awake))) it_acts
          (λ q to names target. named_taken q to (subst (λ run. Names run q) is.state names) (sym (label_mid q) ∙ target))
          (λ q to waits target.
          let same : id ≡ q = sym is.at ∙ subst (λ run. WaitsAt run q) is.state waits in
          let to_is = at_reached id q e to at same (sym (label_mid q) ∙ target) in
          inl (λ awake. modifies authority.Send refl (ap (allowed a authority.Send) to_is ∙ may_send)))

      pub deliver_keeps : Does m (delivered m sender sending receiver receiving)
      deliver_keeps =
          subst (λ (n : Machine). Does m n) (sym (delivered_is m sender sending id receiver receiving sound.well_formed is))
          (keeps_keeps t allowed began event a m mid (with_given mid receiver message) held arrives gives_it)

    -- a thread is halted
    pub halts :
        (thread : ObjId) (tcb : Tcb) → IsThread m thread tcb → (l : ℕ) → label_of t m thread ≡ Some l
        → MayRelease t allowed began a m thread l tcb (halted tcb)
        → (IsAwake t allowed began a → MayAct t allowed l)
        → ((id : ObjId) (to : ℕ) → Names tcb.state id → label_of t m id ≡ Some to → Changes t allowed began a to)
        → ((id : ObjId) (to : ℕ) → WaitsAt tcb.state id → label_of t m id ≡ Some to
        → Changes t allowed began a to ⊎ Takes t allowed began a to)
        → Does m (with_halted m thread)
    halts thread tcb there l labelled has acts names waits =
        released_keeps t allowed began event a m held thread tcb halted there refl refl tt l labelled has acts
        (λ id to named target. inl (names id to named target)) waits

    -- a thread whose call was delivered can't run, or waits for its answer
    module _ (thread : ObjId) (tcb : Tcb) (there : IsThread m thread tcb) (l : ℕ) (labelled : label_of t m thread ≡ Some l)
        (has : Changes t allowed began a l) (acts : IsAwake t allowed began a → MayAct t allowed l)
        (names : (id : ObjId) (to : ℕ) → Names tcb.state id → label_of t m id ≡ Some to → Changes t allowed began a to)
        (waits : (id : ObjId) (to : ℕ) → WaitsAt tcb.state id → label_of t m id ≡ Some to
        → Changes t allowed began a to ⊎ Takes t allowed began a to) where
      halting : Does m (with_halted m thread)
      halting = halts thread tcb there l labelled (inl has) acts names waits

      given_out : (context : ObjId) → tcb.context ≡ Some context → context.0 < (with_halted m thread).next
      given_out context runs =
          let its = sound.well_formed.links.thread_context thread context tcb there runs in
          let below = held.numbered context (o.Context its.0) its.1 in
          let grows = halting.grows in
          omega (arith, below, grows)

      -- it waits through a reply, and lends at most the context that it runs on
      pub waits_keep :
          (id : ObjId) (lent : Option Lent) → IsFree m id
          → ((context : ObjId) → option_map (λ (l : Lent). l.context) lent ≡ Some context → tcb.context ≡ Some context)
          → ((loan : Lent) → lent ≡ Some loan → IsIdleBorrower t allowed m loan)
          → ((r : ℕ) → label_of t m id ≡ Some r → MayHold t allowed began a r l)
          → Does m (with_called (with_halted m thread) thread (record { reply = id; lent = lent }))
      waits_keep id lent before lends borrows may =
          let next = with_halted m thread in
          let between = halted_between m thread tcb sound.well_formed there in
          let after = between.3 id before in
          let was : Reply = record { address = before.0; state = reply.Free } in
          let is : Reply = record { address = after.0; state = reply.Free } in
          let r = sound.of_table.labelled id (o.Reply was) before.1 in
          keeps_keeps t allowed began event a m next (with_called next thread (record { reply = id; lent = lent })) held halting
          (called_keeps t allowed began event a next halting.held thread (halted tcb) (record { reply = id; lent = lent }) is
          between.1 between.2 (λ context loan. (lends context loan, given_out context (lends context loan)))
          (λ loan is. borrower_kept m next loan halting (borrows loan is)) after.1 l
          (label_kept m next thread (o.Tcb tcb) (o.Tcb (halted tcb)) halting there between.1 ∙ labelled) has acts r.0
          (label_kept m next id (o.Reply was) (o.Reply is) halting before.1 after.1 ∙ r.1) (may r.0 r.1))

      pub link_keeps :
          (through : Option ObjId) → ((id : ObjId) → through ≡ Some id → IsFree m id)
          → ((id : ObjId) (r : ℕ) → through ≡ Some id → label_of t m id ≡ Some r → MayHold t allowed began a r l)
          → Does m (linked m thread through)
      link_keeps None free may = halting
      link_keeps (Some id) free may =
          waits_keep id None (free id refl) (λ context loan. absurd (none-some context loan)) (λ loan is. absurd (none-some loan is))
          (λ r. may id r refl)

    -- the thread that a reply holds is halted
    module _ (id : ObjId) (r : ℕ) (labelled : label_of t m id ≡ Some r) (may_reply : allowed a authority.Reply r ≡ true)
        (others : IsAwake t allowed began a → OthersSleep t allowed m)
        (served : IsAwake t allowed began a → CallersAreServed t allowed m) where
      module _ (h : HolderLeaves m id) where
        to_held : (label : ℕ) × (label_of t m h.thread ≡ Some label)
        to_held = thread_label h.thread h.tcb h.there

        holds_it : allowed r authority.Holds to_held.0 ≡ true
        holds_it = by_run h.tcb.state refl h.names where
          by_run : (run : RunState) → h.tcb.state ≡ run → Names run id → allowed r authority.Holds to_held.0 ≡ true
          by_run (state.Receiving receiving) is names =
              let w =
              sound.well_formed.links.receiver_reply h.thread id h.tcb h.there
              (subst (λ run. IsReceivingWith run id) (sym is) names) in
              let answers : Reply = record { address = w.0; state = reply.Waiting h.thread } in
              holds_edge id h.thread answers r to_held.0 w.1 (itself h.thread) labelled to_held.1
          by_run (state.Called calling) is names =
              let w =
              sound.well_formed.links.called_reply h.thread id h.tcb h.there
              (subst (λ run. IsCallingThrough run id) (sym is) names) in
              let answers : Reply = record { address = w.0; state = reply.Called h.thread } in
              holds_edge id h.thread answers r to_held.0 w.1 (itself h.thread) labelled to_held.1
          by_run _ is names = absurd names

        -- its label may act, since it is blocked
        holder_acts : IsAwake t allowed began a → MayAct t allowed to_held.0
        holder_acts awake =
            blocked_acts t allowed m h.thread h.tcb (others awake) h.there (names_blocked h.tcb.state id h.names) to_held.0 to_held.1

        holder_actor : (awake : IsAwake t allowed began a) → awake.acts to_held.0 ≡ true
        holder_actor awake =
            blocked_actor t allowed began m a awake (others awake) sound.of_table h.thread h.tcb h.there
            (names_blocked h.tcb.state id h.names) to_held.0 to_held.1

        -- a thread that waits is halted, and one that called is served
        holder_leaves_it : MayRelease t allowed began a m h.thread to_held.0 h.tcb (halted h.tcb)
        holder_leaves_it = by_run h.tcb.state refl h.names where
          by_run :
              (run : RunState) → h.tcb.state ≡ run → Names run id
              → MayRelease t allowed began a m h.thread to_held.0 h.tcb (halted h.tcb)
          by_run (state.Receiving receiving) is names =
              let replies_with =
              thread_edge h.thread id h.tcb authority.Reply to_held.0 r h.there
              (ap (λ run. state_links run authority.Reply id) is ∙ ap (λ n. names_object n id) names ∙ itself id) to_held.1
              labelled in
              let queue = sound.well_formed.parts.queue h.thread (o.Tcb h.tcb) h.there in
              inr (
                λ awake.
                    halts_waiting (record {
                      reply = r;
                      uses = may_reply;
                      held = record { holds = holds_it; names = replies_with; waits = holder_actor awake };
                    }),
                is_halted (names_blocked h.tcb.state id h.names) refl refl,
                queue.0,
                queue.1,
              )
          by_run (state.Called calling) is names =
              let w =
              sound.well_formed.links.called_reply h.thread id h.tcb h.there
              (subst (λ run. IsCallingThrough run id) (sym is) names) in
              let answers : Reply = record { address = w.0; state = reply.Called h.thread } in
              inl (λ awake.
              let its = (served awake id answers w.1 h.thread refl).1 r to_held.0 labelled to_held.1 in
              replies (record { reply = r; uses = may_reply; called = held_caller awake r to_held.0 its holds_it (holder_actor awake) }))
          by_run _ is names = absurd names

        named_one : (run : RunState) (q : ObjId) → Names run id → Names run q → id ≡ q
        named_one (state.Receiving receiving) q one two = same_Some id q (sym one ∙ two)
        named_one (state.Called calling) q one two = sym one ∙ two
        named_one _ q one two = absurd one

        names_full : (q : ObjId) (to : ℕ) → Names h.tcb.state q → label_of t m q ≡ Some to → Changes t allowed began a to
        names_full q to names target =
            let to_is = at_reached id q r to labelled (named_one h.tcb.state q h.names names) target in
            λ awake. modifies authority.Reply refl (ap (allowed a authority.Reply) to_is ∙ may_reply)

        -- the endpoint at which it waits only loses it
        waits_taken :
            (q : ObjId) (to : ℕ) → WaitsAt h.tcb.state q → label_of t m q ≡ Some to → Changes t allowed began a to ⊎ Takes t allowed began a to
        waits_taken q to waits target = by_run h.tcb.state refl h.names waits where
          by_run : (run : RunState) → h.tcb.state ≡ run → Names run id → WaitsAt run q → Changes t allowed began a to ⊎ Takes t allowed began a to
          by_run (state.Receiving receiving) is names at =
              let receives_there =
              thread_edge h.thread q h.tcb authority.Receive to_held.0 to h.there
              (ap (λ run. state_links run authority.Receive q) is ∙ ap (λ (i : ObjId). same_id i q) at ∙ itself q) to_held.1
              target in
              let replies_with =
              thread_edge h.thread id h.tcb authority.Reply to_held.0 r h.there
              (ap (λ run. state_links run authority.Reply id) is ∙ ap (λ n. names_object n id) names ∙ itself id) to_held.1
              labelled in
              inr (λ awake. ends r to_held.0 may_reply replies_with (holder_actor awake) receives_there)
          by_run (state.Called calling) is names at = absurd at
          by_run _ is names at = absurd names

        holder_keeps : Does m (with_holder_halted m id)
        holder_keeps =
            subst (λ (n : Machine). Does m n) (sym h.changes)
            (halts h.thread h.tcb h.there to_held.0 to_held.1 holder_leaves_it holder_acts names_full waits_taken)

      pub halt_keeps : Does m (with_holder_halted m id)
      halt_keeps = by_holder (holder_leaves m id sound.well_formed.links) where
        by_holder : (with_holder_halted m id ≡ m) ⊎ HolderLeaves m id → Does m (with_holder_halted m id)
        by_holder (inl same) = subst (λ (n : Machine). Does m n) (sym same) (unchanged t allowed began event a m held)
        by_holder (inr h) = holder_keeps h
