-- Send, Call, Receive, Reply and Fetch within a caller's authority: its label may use the endpoint or the reply that is found, and the
-- thread that a message or an answer reaches waits there by a recorded edge.
use Rattle.std.{specs.Prelude.{if◌then◌else◌, is_ok}, proofs.Common.{ℕ, ◌&&◌, ◌∙◌, ◌≡◌, ◌≢◌, ◌⊎◌, Bool, List, None, Option}}
use Rattle.std.proofs.{Common.{Some, ap, false, inl, inr, refl, subst, sym, true}, lemmas.Bool.{and_from, and_parts, false≢true}}
use Rattle.base.specs.declared.{ids.ObjId.ObjId, kind.Kind.{Kind, Kind as authority}}
use Rattle.machine.specs.declared.{call.Event.Event, cap.Detail.Detail as d, object.Endpoint.Endpoint}
use Rattle.machine.specs.declared.{object.{Object.{Object, Object as o}, Reply.Reply}, slot_address.SlotAddress.SlotAddress}
use Rattle.machine.specs.declared.thread.{Message.Message, Receiving.Receiving, RunState.RunState, Sending.Sending, Tcb.Tcb}
use Rattle.machine.specs.{Authority.{label_of, state_links}, Capabilities.can_write, Layout.Layout, Machine.{Machine, object_of, same_id}}
use Rattle.machine.specs.Releasing.{given, ready, with_blocked, with_given, with_named, with_ready}
use Rattle.machine.specs.Step.Deliver.{answer_through, arrival_of, delivered, linked, message_of, sending_by, sent, with_arrival}
use Rattle.machine.specs.Step.{Receive.{awaiting_message, with_reply_ended}, Reply.with_returned, Send.called_through}
use Rattle.machine.specs.WellFormed.{IsAlike, IsCallingThrough, IsReceivingWith, IsThread, IsWellFormed, WaitsAt}
use Rattle.machine.proofs.{HeldThreads.calling_names, Ids.itself, Leaving.Names, LookUps.one_id, RunsLinks.named_so}
use Rattle.steps.proofs.{Admission.IsCaller, Arrival.arrival_same, EndpointRow.{IsEndOpen, IsReceiver, IsSender}}
use Rattle.steps.proofs.{FetchRow.FetchDone, Joins.names_one, Lending.returned_there}
use Rattle.steps.proofs.MessageRows.{answers_through, caller_apart, caller_idle, delivered_formed, delivered_free}
use Rattle.steps.proofs.MessageRows.{delivered_other, delivered_there, received_arrived_formed, received_arrived_free}
use Rattle.steps.proofs.MessageRows.{received_caller, received_ended_formed, received_endpoint, received_free, received_sender}
use Rattle.steps.proofs.{ReceiveRow.ReceiveDone, ReplyRow.{Answers, ReplyDone}, SendRow.{EndpointCallDone, SendDone}}
use Rattle.policy.specs.Change.{MayChangeContext.{lends, returns}, WayToChange.{links as links_to, modifies, receives}}
use Rattle.policy.specs.{Change.WayToChange.{replies, sends, shares}, Domain.EdgeTest, Sharp.{MayIdle, MayServe}}
use Rattle.integrity.specs.{Acting.MayAct, Awake.IsAwake, Invariant.{IsHeld, IsSound}, Keeping.IsSharp, Shrinks.IsBlocked}
use Rattle.integrity.proofs.{ArrivalKeeps.arrival_keeps, Asleep.blocked_acts, Awake.{blocked_actor, has_threads}, Held.held_of}
use Rattle.integrity.proofs.{Keeps.{Changes, Keeps, Takes, keeps_keeps, unchanged}, LendingKeeps.{called_through_keeps, returned_keeps}}
use Rattle.integrity.proofs.MessageParts.{IsReached, answers_allowed, at_reached, blocked_beside, deliver_keeps, halt_keeps}
use Rattle.integrity.proofs.MessageParts.{held_caller, holds_edge, label_kept, link_keeps, reached, receiver_receives}
use Rattle.integrity.proofs.MessageParts.{receiver_replies, same_kept, sender_calls, sender_grants, sender_sends, thread_label}
use Rattle.integrity.proofs.MessageTouches.{MayHold, blocked_keeps, emptied_keeps, free_holds, holding_keeps}
use Rattle.integrity.proofs.{MessageTouches.{released_keeps, sound_after, waiting_apart}, ObjectLabels.same_label}
use Rattle.machine.specs.declared.object.ReplyState.TheVariants as reply
use Rattle.machine.specs.declared.thread.RunState.TheVariants as state

-- a thread runs on a context
abbrev pub RunsOn : Machine → ObjId → Type 0
RunsOn m thread = (tcb : Tcb) → IsThread m thread tcb → tcb.context ≡ None → ⊥

-- a thread that waits for an answer is blocked, and is in no queue

calling_blocked : (run : RunState) (id : ObjId) → IsCallingThrough run id → IsBlocked run
calling_blocked (state.Called _) id calls = tt
calling_blocked _ id calls = absurd calls

calling_waits : (run : RunState) (id q : ObjId) → IsCallingThrough run id → ¬ (WaitsAt run q)
calling_waits (state.Called _) id q calls waits = waits
calling_waits _ id q calls waits = absurd calls

module _
    (t : Layout) (allowed : EdgeTest) (event : Event) (a : ℕ) (m : Machine) (sound : IsSound t allowed m)
    (closed : IsSharp t allowed) (thread : ObjId) (mine : label_of t m thread ≡ Some a) (is : IsCaller m thread)
    (next : Machine) where
  abbrev Makes : Machine → Machine → Type 0
  Makes n after = Keeps t allowed m event a n after

  before : IsHeld t allowed m
  before = held_of t allowed m sound

  becomes : (after : Machine) → next ≡ after → Makes m after → Makes m next
  becomes after same keeps = subst (λ (n : Machine). Makes m n) (sym same) keeps

  not_thread :
      (n : Machine) (id : ObjId) (endpoint : Endpoint) (tcb : Tcb) → object_of n id ≡ Some (o.Endpoint endpoint)
      → IsThread n thread tcb → id ≢ thread
  not_thread n id endpoint tcb there caller_there same =
      differ (sym there ∙ ap (object_of n) same ∙ caller_there)
    where
      differ : ◌≡◌ {A = Option Object} (Some (o.Endpoint endpoint)) (Some (o.Tcb tcb)) → ⊥
      differ e = cc

  reply_apart :
      (n : Machine) (id : ObjId) (answers : Reply) (tcb : Tcb) → object_of n id ≡ Some (o.Reply answers) → IsThread n thread tcb
      → id ≢ thread
  reply_apart n id answers tcb there caller_there same =
      differ (sym there ∙ ap (object_of n) same ∙ caller_there)
    where
      differ : ◌≡◌ {A = Option Object} (Some (o.Reply answers)) (Some (o.Tcb tcb)) → ⊥
      differ e = cc

  -- the caller sends by a capability to an endpoint
  module _ (address : ℕ) (open_to : IsEndOpen m thread address (λ end. can_write end.rights)) (is_call : Bool) (words : List ℕ)
      (capability : Option ℕ) where
    abbrev sending : Sending
    sending = sending_by open_to.id open_to.end is_call words capability

    to_end : IsReached t allowed m event a m sound open_to.id (d.Endpoint open_to.end)
    to_end =
        reached t allowed m event a m sound closed.uses_rise thread address open_to.id (d.Endpoint open_to.end) mine
        open_to.finds

    may_send : allowed a authority.Send to_end.label ≡ true
    may_send = to_end.edge authority.Send open_to.allowed refl

    may_grant : sending.grant ≡ true → allowed a authority.Grant to_end.label ≡ true
    may_grant grants = to_end.edge authority.Grant grants refl

    may_call : sending.can_reply ≡ true → allowed a authority.Call to_end.label ≡ true
    may_call answers = to_end.edge authority.Call (and_from (can_write open_to.end.rights) _ open_to.allowed answers) refl

    sending_links :
        (k : Kind) (q : ObjId) (to : ℕ) → state_links (state.Sending sending) k q ≡ true → label_of t m q ≡ Some to
        → allowed a k to ≡ true
    sending_links authority.Send q to has target =
        ap (allowed a authority.Send)
        (at_reached t allowed m event a m sound open_to.id q to_end.label to to_end.labelled (one_id open_to.id q has) target)
        ∙ may_send
    sending_links authority.Grant q to has target =
        let parts = and_parts sending.grant (same_id open_to.id q) has in
        ap (allowed a authority.Grant)
        (at_reached t allowed m event a m sound open_to.id q to_end.label to to_end.labelled (one_id open_to.id q parts.1) target)
        ∙ may_grant parts.0
    sending_links authority.Call q to has target =
        let parts = and_parts (is_call && sending.can_reply) (same_id open_to.id q) has in
        ap (allowed a authority.Call)
        (at_reached t allowed m event a m sound open_to.id q to_end.label to to_end.labelled (one_id open_to.id q parts.1) target)
        ∙ may_call (and_parts is_call sending.can_reply parts.0).1
    sending_links _ q to has target = absurd (false≢true has)

    -- it waits
    wait_keeps : Makes m (with_blocked m thread open_to.id (state.Sending sending))
    wait_keeps =
        blocked_keeps t allowed m event a m before thread is.thread open_to.id (state.Sending sending)
        (o.Endpoint open_to.endpoint) is.there
        (caller_idle m thread is) refl mine open_to.there (not_thread m open_to.id open_to.endpoint is.thread open_to.there is.there)
        to_end.label to_end.labelled (λ awake. modifies authority.Send refl may_send) sending_links
        (λ receiving waits none. cc)

    -- or a thread that waits to receive gets the message
    module _ (receiver : ObjId) (receiving : Receiving) (waits : IsReceiver m open_to.id receiver receiving) where
      message_keeps : Makes m (delivered m thread sending receiver receiving)
      message_keeps =
          deliver_keeps t allowed m event a m sound closed thread sending open_to.id receiver receiving mine waits to_end.label
          to_end.labelled
          may_send may_grant (λ awake. awake.others)

      abbrev after : Machine
      after = delivered m thread sending receiver receiving

      after_sound : IsSound t allowed after
      after_sound =
          sound_after t allowed m event a m after sound message_keeps
          (delivered_formed m thread sending open_to.id receiver receiving sound.well_formed waits)

      after_there : IsThread after thread is.thread
      after_there =
          delivered_other m thread sending open_to.id receiver receiving sound.well_formed waits thread is.thread
          (caller_apart m thread open_to.id receiver receiving is waits) is.there

      -- the receiver's label may act, since it is blocked

      receiver_acts : IsAwake t allowed m a → (b : ℕ) → label_of t m receiver ≡ Some b → MayAct t allowed b
      receiver_acts awake =
          blocked_acts t allowed m receiver waits.tcb awake.others waits.there (subst IsBlocked (sym waits.state) tt)

      receiver_actor : (awake : IsAwake t allowed m a) (b : ℕ) → label_of t m receiver ≡ Some b → awake.acts b ≡ true
      receiver_actor awake =
          blocked_actor t allowed m m a awake awake.others sound.of_table receiver waits.tcb waits.there
          (subst IsBlocked (sym waits.state) tt)

      -- the receiver serves with the reply that it named
      served_with :
          (id : ObjId) → receiving.reply ≡ Some id → (b : ℕ) → label_of t m receiver ≡ Some b
          → (r : ℕ) × MayServe allowed b r to_end.label
      served_with id names b labelled =
          let w =
          sound.well_formed.links.receiver_reply receiver id waits.tcb waits.there
          (subst (λ run. IsReceivingWith run id) (sym waits.state) names) in
          let r = sound.of_table.labelled id (o.Reply (record { address = w.0; state = reply.Waiting receiver })) w.1 in (
            r.0,
            record {
              names = receiver_replies t allowed m event a m sound open_to.id receiver receiving waits b labelled id r.0 names r.1;
              receives =
                  receiver_receives t allowed m event a m sound open_to.id receiver receiving waits b labelled to_end.label
                  to_end.labelled;
            },
          )

      -- the reply through which the call is answered is one that the receiver named, and may hold the caller
      answers_within :
          (id : ObjId) (r : ℕ) → answer_through sending receiving.reply ≡ Some id → label_of t after id ≡ Some r
          → MayHold t allowed m a r a
      answers_within id r through target =
          let names = answers_through sending receiving.reply id through in
          let b = thread_label t allowed m event a m sound receiver waits.tcb waits.there in
          let w =
          sound.well_formed.links.receiver_reply receiver id waits.tcb waits.there
          (subst (λ run. IsReceivingWith run id) (sym waits.state) names) in
          let was = sound.of_table.labelled id (o.Reply (record { address = w.0; state = reply.Waiting receiver })) w.1 in
          let r_is : r ≡ was.0 = same_kept t allowed m event a m after id was.0 r message_keeps was.1 target in
          let labelled : label_of t m id ≡ Some r = was.1 ∙ ap (λ (n : ℕ). Some n) (sym r_is) in
          let may_receive =
          receiver_receives t allowed m event a m sound open_to.id receiver receiving waits b.0 b.1 to_end.label
          to_end.labelled in
          let may_reply =
          receiver_replies t allowed m event a m sound open_to.id receiver receiving waits b.0 b.1 id r names labelled in
          let calls = may_call (answers_allowed sending receiving.reply id through) in
          record {
            changes = λ awake. links_to to_end.label b.0 may_send calls may_receive (receiver_actor awake b.0 b.1) may_reply;
            holds = closed.holds_callers b.0 r to_end.label a (record { names = may_reply; receives = may_receive }) calls;
            serves = λ awake. record {
              server = b.0;
              names = may_reply;
              serves = receiver_acts awake b.0 b.1;
              threads = has_threads t m sound.of_table receiver waits.tcb waits.there b.0 b.1;
              endpoint = to_end.label;
              receives = may_receive;
              calls = calls;
            };
          }

      -- the receiver may run on what the caller runs on, if the call may be answered
      called_message_keeps : Makes m (called_through after thread receiver (answer_through sending receiving.reply))
      called_message_keeps =
          let receives =
          receiver_receives t allowed m event a m sound open_to.id receiver receiving waits b.0 b.1 to_end.label to_end.labelled in
          let got = delivered_there m thread sending open_to.id receiver receiving sound.well_formed waits in
          keeps_keeps t allowed m event a m after (called_through after thread receiver (answer_through sending receiving.reply))
          before message_keeps
          (called_through_keeps t allowed m event a after after_sound thread receiver is.thread
          (given (message_of sending (is_ok (arrival_of m thread sending receiver receiving.slot))) waits.tcb) after_there
          (caller_idle m thread is) got (caller_apart m thread open_to.id receiver receiving is waits)
          (label_kept t allowed m event a m after thread (o.Tcb is.thread) (o.Tcb is.thread) message_keeps is.there after_there
          ∙ mine)
          b.0 (label_kept t allowed m event a m after receiver (o.Tcb waits.tcb) (o.Tcb _) message_keeps waits.there got ∙ b.1)
          (λ awake. sends to_end.label may_send receives (receiver_actor awake b.0 b.1))
          (λ awake. receiver_acts awake b.0 b.1)
          (answer_through sending receiving.reply)
          (λ id through.
          delivered_free m thread sending open_to.id receiver receiving sound.well_formed waits id
          (answers_through sending receiving.reply id through))
          answers_within (λ id through. receiver_idles) lends_to)
        where
          b : (label : ℕ) × (label_of t m receiver ≡ Some label)
          b = thread_label t allowed m event a m sound receiver waits.tcb waits.there

          receiver_idles : waits.tcb.context ≡ None → MayIdle allowed b.0
          receiver_idles none = sound.idlers receiver waits.tcb receiving waits.there waits.state none b.0 b.1

          lends_to :
              (id : ObjId) → answer_through sending receiving.reply ≡ Some id → waits.tcb.context ≡ None → (s : ℕ)
              → allowed a authority.Runs s ≡ true → (allowed b.0 authority.Runs s ≡ true) × Changes t allowed m a s
          lends_to id through none s runs =
              let calls = may_call (answers_allowed sending receiving.reply id through) in
              let served = served_with id (answers_through sending receiving.reply id through) b.0 b.1 in (
                closed.lends_to_servers b.0 served.0 to_end.label a s served.1 (receiver_idles none) calls runs,
                λ awake.
                    shares
                    (lends runs (record {
                      endpoint = to_end.label;
                      calls = calls;
                      receiver = b.0;
                      receives = served.1.receives;
                      serves = receiver_actor awake b.0 b.1;
                      borrows = record { idles = receiver_idles none; reply = served.0; names = served.1.names };
                    })),
              )

  module _ (address : ℕ) (words : List ℕ) (capability : Option ℕ) where
    pub send_keeps : SendDone m thread address words capability next → Makes m next
    send_keeps done = by_first done.changes where
      by_first :
          ((receiver : ObjId) × (receiving : Receiving) × IsReceiver m done.open_to.id receiver receiving
          × (next ≡ delivered m thread (sending_by done.open_to.id done.open_to.end false words capability) receiver receiving))
          ⊎ (IsAlike m done.open_to.id (state.Sending (sending_by done.open_to.id done.open_to.end false words capability))
          × (next ≡ with_blocked m thread done.open_to.id
          (state.Sending (sending_by done.open_to.id done.open_to.end false words capability))))
          → Makes m next
      by_first (inl w) = becomes _ w.3 (message_keeps address done.open_to false words capability w.0 w.1 w.2)
      by_first (inr w) = becomes _ w.1 (wait_keeps address done.open_to false words capability)

    pub endpoint_call_keeps : EndpointCallDone m thread address words capability next → Makes m next
    endpoint_call_keeps done = by_first done.changes where
      by_first :
          ((receiver : ObjId) × (receiving : Receiving) × IsReceiver m done.open_to.id receiver receiving
          × (next
          ≡ called_through
          (delivered m thread (sending_by done.open_to.id done.open_to.end true words capability) receiver receiving) thread
          receiver
          (answer_through (sending_by done.open_to.id done.open_to.end true words capability) receiving.reply)))
          ⊎ (IsAlike m done.open_to.id (state.Sending (sending_by done.open_to.id done.open_to.end true words capability))
          × (next ≡ with_blocked m thread done.open_to.id
          (state.Sending (sending_by done.open_to.id done.open_to.end true words capability))))
          → Makes m next
      by_first (inl w) = becomes _ w.3 (called_message_keeps address done.open_to true words capability w.0 w.1 w.2)
      by_first (inr w) = becomes _ w.1 (wait_keeps address done.open_to true words capability)

  -- the caller receives
  module _ (address : ℕ) (named : Option ℕ) (slot : Option SlotAddress)
      (done : ReceiveDone m thread address named slot next) (runs : RunsOn m thread) where
    abbrev id : ObjId
    id = done.open_to.id

    abbrev ended : Machine
    ended = with_reply_ended m done.reply

    end_there : object_of ended id ≡ Some (o.Endpoint done.open_to.endpoint)
    end_there = received_endpoint m thread address named slot next sound.well_formed done

    caller_there : IsThread ended thread is.thread
    caller_there = received_caller m thread address named slot next sound.well_formed done is

    ended_formed : IsWellFormed ended
    ended_formed = received_ended_formed m thread address named slot next sound.well_formed done

    from_end : IsReached t allowed m event a m sound id (d.Endpoint done.open_to.end)
    from_end =
        reached t allowed m event a m sound closed.uses_rise thread address done.open_to.id (d.Endpoint done.open_to.end) mine
        done.open_to.finds

    may_receive : allowed a authority.Receive from_end.label ≡ true
    may_receive = from_end.edge authority.Receive done.open_to.allowed refl

    by_reply : (q : ObjId) → done.reply ≡ Some q → IsReached t allowed m event a m sound q d.Reply
    by_reply q names =
        let found = done.finds_reply q names in
        reached t allowed m event a m sound closed.uses_rise thread found.0 q d.Reply mine found.1

    -- the thread that its reply held is halted
    ends : Makes m ended
    ends = by_named done.reply refl where
      by_named : (reply : Option ObjId) → done.reply ≡ reply → Makes m (with_reply_ended m reply)
      by_named None names = unchanged t allowed m event a m before
      by_named (Some q) names =
          let found = by_reply q names in
          halt_keeps t allowed m event a m sound q found.label found.labelled (found.edge authority.Reply refl refl)
          (λ awake. awake.others) (λ awake. awake.served)

    ended_sound : IsSound t allowed ended
    ended_sound = sound_after t allowed m event a m ended sound ends ended_formed

    caller_label : label_of t ended thread ≡ Some a
    caller_label =
        label_kept t allowed m event a m ended thread (o.Tcb is.thread) (o.Tcb is.thread) ends is.there caller_there ∙ mine

    end_label : label_of t ended id ≡ Some from_end.label
    end_label =
        label_kept t allowed m event a m ended id (o.Endpoint done.open_to.endpoint) (o.Endpoint done.open_to.endpoint) ends
        done.open_to.there end_there
        ∙ from_end.labelled

    -- the reply is still one that the label may use
    reply_used : (q : ObjId) (r : ℕ) → done.reply ≡ Some q → label_of t ended q ≡ Some r → allowed a authority.Reply r ≡ true
    reply_used q r names target =
        let found = by_reply q names in
        ap (allowed a authority.Reply) (same_kept t allowed m event a m ended q found.label r ends found.labelled target)
        ∙ found.edge authority.Reply refl refl

    -- the message of a sender is received
    module _ (sender : ObjId) (sending : Sending) (waits : IsSender ended id sender sending) where
      abbrev arrived : Machine
      arrived = with_arrival ended (arrival_of ended sender sending thread slot)

      to_sender : (label : ℕ) × (label_of t ended sender ≡ Some label)
      to_sender = thread_label t allowed m event a ended ended_sound sender waits.tcb waits.there

      takes : Makes ended arrived
      takes =
          arrival_keeps t allowed m event a ended ended_sound closed sender sending thread slot to_sender.0 a from_end.label
          to_sender.1 caller_label
          (sender_grants t allowed m event a ended ended_sound id sender sending waits to_sender.0 from_end.label to_sender.1
          end_label) may_receive (inr refl)

      arrived_sound : IsSound t allowed arrived
      arrived_sound =
          sound_after t allowed m event a ended arrived ended_sound takes
          (received_arrived_formed m thread address named slot next sound.well_formed done sender sending waits)

      label_arrived : (q : ObjId) → label_of t arrived q ≡ label_of t ended q
      label_arrived q = same_label t ended arrived q (arrival_same ended sender sending thread slot ended_formed q).0

      sender_there : IsThread arrived sender waits.tcb
      sender_there = received_sender m thread address named slot next sound.well_formed done sender sending waits

      sender_changes : Changes t allowed m a to_sender.0
      sender_changes awake =
          receives from_end.label may_receive
          (sender_sends t allowed m event a ended ended_sound id sender sending waits to_sender.0 from_end.label to_sender.1
          end_label)
          (blocked_actor t allowed m ended a awake (ends.sleeps awake awake.others) ended_sound.of_table sender waits.tcb waits.there
          (subst IsBlocked (sym waits.state) tt) to_sender.0 to_sender.1)

      -- its label may act, since it is blocked
      sender_acts : IsAwake t allowed m a → MayAct t allowed to_sender.0
      sender_acts awake =
          blocked_acts t allowed ended sender waits.tcb (ends.sleeps awake awake.others) waits.there
          (subst IsBlocked (sym waits.state) tt) to_sender.0 to_sender.1

      names_none : (q : ObjId) (to : ℕ) → Names waits.tcb.state q → label_of t arrived q ≡ Some to → Changes t allowed m a to
      names_none q to names target = absurd (subst (λ run. Names run q) waits.state names)

      end_full :
          (q : ObjId) (to : ℕ) → WaitsAt waits.tcb.state q → label_of t arrived q ≡ Some to
          → Changes t allowed m a to ⊎ Takes t allowed m a to
      end_full q to stays target =
          let same : id ≡ q = sym waits.at ∙ subst (λ run. WaitsAt run q) waits.state stays in
          let to_is =
          at_reached t allowed m event a ended ended_sound id q from_end.label to end_label same
          (sym (label_arrived q) ∙ target) in
          inl (λ awake. modifies authority.Receive refl (ap (allowed a authority.Receive) to_is ∙ may_receive))

      -- it can run, or waits for the answer through the receiver's reply
      sent_keeps : Makes arrived (sent arrived sender sending done.reply)
      sent_keeps = by_call sending.is_call refl where
        by_call :
            (call : Bool) → sending.is_call ≡ call
            → Makes arrived
            (if call then linked arrived sender (answer_through sending done.reply) else with_ready arrived sender)
        by_call true calls =
            link_keeps t allowed m event a arrived arrived_sound sender waits.tcb sender_there to_sender.0
            (label_arrived sender ∙ to_sender.1) sender_changes sender_acts
            names_none end_full (answer_through sending done.reply)
            (λ q through.
            received_arrived_free m thread address named slot next sound.well_formed done sender sending waits q
            (answers_through sending done.reply q through))
            (λ q r through target.
            let may_reply = reply_used q r (answers_through sending done.reply q through) (sym (label_arrived q) ∙ target) in
            let may_call =
            sender_calls t allowed m event a ended ended_sound id sender sending waits to_sender.0 from_end.label to_sender.1
            end_label calls (answers_allowed sending done.reply q through) in
            record {
              changes = λ awake. modifies authority.Reply refl may_reply;
              holds =
                  closed.holds_callers a r from_end.label to_sender.0 (record { names = may_reply; receives = may_receive }) may_call;
              serves = λ awake. record {
                server = a;
                names = may_reply;
                serves = awake.acting;
                threads = has_threads t m sound.of_table thread is.thread is.there a mine;
                endpoint = from_end.label;
                receives = may_receive;
                calls = may_call;
              };
            })
        by_call false calls =
            released_keeps t allowed m event a arrived takes.held sender waits.tcb ready sender_there refl refl tt to_sender.0
            (label_arrived sender ∙ to_sender.1) (inl sender_changes) sender_acts
            (λ q to names target. inl (names_none q to names target)) end_full

      received_keeps : Makes m (sent arrived sender sending done.reply)
      received_keeps =
          keeps_keeps t allowed m event a m ended (sent arrived sender sending done.reply) before ends
          (keeps_keeps t allowed m event a ended arrived (sent arrived sender sending done.reply) ends.held takes sent_keeps)

    -- or the caller waits for a message, and its reply with it

    abbrev receiving : Receiving
    receiving = record { endpoint = id; reply = done.reply; slot = slot }

    abbrev blocked : Machine
    blocked = with_blocked ended thread id (state.Receiving receiving)

    receiving_links :
        (k : Kind) (q : ObjId) (to : ℕ) → state_links (state.Receiving receiving) k q ≡ true → label_of t ended q ≡ Some to
        → allowed a k to ≡ true
    receiving_links authority.Receive q to has target =
        ap (allowed a authority.Receive)
        (at_reached t allowed m event a ended ended_sound id q from_end.label to end_label (one_id id q has) target) ∙ may_receive
    receiving_links authority.Reply q to has target = reply_used q to (named_so done.reply q has) target
    receiving_links _ q to has target = absurd (false≢true has)

    blocks : Makes ended blocked
    blocks =
        blocked_keeps t allowed m event a ended ends.held thread is.thread id (state.Receiving receiving)
        (o.Endpoint done.open_to.endpoint)
        caller_there (caller_idle m thread is) refl caller_label end_there
        (not_thread ended id done.open_to.endpoint is.thread end_there caller_there) from_end.label end_label
        (λ awake. modifies authority.Receive refl may_receive) receiving_links
        (λ message waits none. absurd (runs is.thread is.there none))

    holds_caller : Makes blocked (with_named blocked done.reply (reply.Waiting thread))
    holds_caller = by_named done.reply refl where
      by_named : (named : Option ObjId) → done.reply ≡ named → Makes blocked (with_named blocked named (reply.Waiting thread))
      by_named None names = unchanged t allowed m event a blocked blocks.held
      by_named (Some q) names =
          let free = received_free m thread address named slot next sound.well_formed done q names in
          let answers : Reply = record { address = free.0; state = reply.Free } in
          let r = ended_sound.of_table.labelled q (o.Reply answers) free.1 in
          let may_reply = reply_used q r.0 names r.1 in
          let kept : object_of blocked q ≡ object_of ended q =
          blocked_beside ended thread id is.thread (state.Receiving receiving) q caller_there
          (reply_apart ended q answers is.thread free.1 caller_there) in
          holding_keeps t allowed m event a blocked blocks.held q answers (reply.Waiting thread) r.0 (kept ∙ free.1)
          (same_label t ended blocked q kept ∙ r.1) (λ awake. modifies authority.Reply refl may_reply)
          (λ other to holds target.
          ap (allowed r.0 authority.Holds)
          (same_kept t allowed m event a ended blocked thread a to blocks caller_label
          (ap (label_of t blocked) (one_id thread other holds) ∙ target))
          ∙ closed.holds_servers a r.0 from_end.label (record { names = may_reply; receives = may_receive }))
          (λ awake. free_holds t allowed blocked q answers (reply.Waiting thread) (λ other called. waiting_apart thread other called))

    awaits_keeps : Makes m (awaiting_message ended thread receiving)
    awaits_keeps =
        keeps_keeps t allowed m event a m ended (awaiting_message ended thread receiving) before ends
        (keeps_keeps t allowed m event a ended blocked (awaiting_message ended thread receiving) ends.held blocks holds_caller)

  pub receive_keeps :
      (address : ℕ) (named : Option ℕ) (slot : Option SlotAddress) → ReceiveDone m thread address named slot next → RunsOn m thread
      → Makes m next
  receive_keeps address named slot done runs = by_first done.changes where
    by_first :
        ((sender : ObjId) × (sending : Sending) × IsSender (with_reply_ended m done.reply) done.open_to.id sender sending
        × (next
        ≡ sent
        (with_arrival (with_reply_ended m done.reply) (arrival_of (with_reply_ended m done.reply) sender sending thread slot))
        sender sending done.reply))
        ⊎ (IsAlike (with_reply_ended m done.reply) done.open_to.id
        (state.Receiving (record { endpoint = done.open_to.id; reply = done.reply; slot = slot }))
        × (next
        ≡ awaiting_message (with_reply_ended m done.reply) thread
        (record { endpoint = done.open_to.id; reply = done.reply; slot = slot })))
        → Makes m next
    by_first (inl w) = becomes _ w.3 (received_keeps address named slot done runs w.0 w.1 w.2)
    by_first (inr w) = becomes _ w.1 (awaits_keeps address named slot done runs)

  pub reply_keeps : (address : ℕ) (words : List ℕ) → ReplyDone m thread address words next → Makes m next
  reply_keeps address words done = by_state done.changes where
    to_reply : IsReached t allowed m event a m sound done.id d.Reply
    to_reply = reached t allowed m event a m sound closed.uses_rise thread address done.id d.Reply mine done.finds

    may_reply : allowed a authority.Reply to_reply.label ≡ true
    may_reply = to_reply.edge authority.Reply refl refl

    answer_keeps :
        (called : ObjId) (at : ℕ) (message : Message)
        → object_of m done.id ≡ Some (o.Reply (record { address = at; state = reply.Called called }))
        → Makes m (with_given (with_returned m thread called) called message)
    answer_keeps called at message there =
        let w = sound.well_formed.links.reply_called done.id called at there in
        let l = thread_label t allowed m event a m sound called w.0 w.1 in
        let holds =
        holds_edge t allowed m event a m sound done.id called (record { address = at; state = reply.Called called })
        to_reply.label l.0 there (itself called) to_reply.labelled l.1 in
        let has : Changes t allowed m a l.0 =
        λ awake.
        replies (record {
          reply = to_reply.label;
          uses = may_reply;
          called =
              held_caller t allowed m event a awake to_reply.label l.0
              ((awake.served done.id (record { address = at; state = reply.Called called }) there called refl).1 to_reply.label l.0
              to_reply.labelled l.1)
              holds
              (blocked_actor t allowed m m a awake awake.others sound.of_table called w.0 w.1
              (calling_blocked w.0.state done.id w.2) l.0 l.1);
        }) in
        let mid = with_returned m thread called in
        let acts : IsAwake t allowed m a → MayAct t allowed l.0 =
        λ awake. blocked_acts t allowed m called w.0 awake.others w.1 (calling_blocked w.0.state done.id w.2) l.0 l.1 in
        let back =
        returned_keeps t allowed m event a m sound thread called is.thread w.0 is.there (caller_idle m thread is) mine w.1 l.0 l.1 has acts
        (λ idles s runs awake. shares (returns runs (record { idles = idles; reply = to_reply.label; names = may_reply }))) in
        let link = returned_there m thread called w.0 sound.well_formed w.1 in
        keeps_keeps t allowed m event a m mid (with_given mid called message) before back
        (released_keeps t allowed m event a mid back.held called (record w.0 { context = link.0 }) (given message) link.1 refl refl
        tt l.0
        (label_kept t allowed m event a m mid called (o.Tcb w.0) (o.Tcb (record w.0 { context = link.0 })) back w.1 link.1 ∙ l.1)
        (inl has) acts
        (λ q to names target.
        let same = names_one w.0.state done.id q (calling_names w.0.state done.id w.2) names in
        let to_is =
        same_kept t allowed m event a m mid q to_reply.label to back (ap (label_of t m) (sym same) ∙ to_reply.labelled) target in
        inl (λ awake. modifies authority.Reply refl (ap (allowed a authority.Reply) to_is ∙ may_reply)))
        (λ q to waits target. absurd (calling_waits w.0.state done.id q w.2 waits)))

    by_state : Answers m thread done.id words next → Makes m next
    by_state (inl w) = becomes _ w.3 (answer_keeps w.0 w.1 _ w.2)
    by_state (inr same) = becomes m same (unchanged t allowed m event a m before)

  pub fetch_keeps : FetchDone m thread next → Makes m next
  fetch_keeps done = becomes _ done.changes (emptied_keeps t allowed m event a m before thread is.thread is.there mine)
