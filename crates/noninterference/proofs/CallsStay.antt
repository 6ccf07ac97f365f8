-- Calls in a fixed system: each leaves it as it is, or isn't done.
use Rattle.std.{specs.Prelude.{Err, None, Ok, Option, Result, Some, if◌then◌else◌, is_ok}, proofs.Common.{ℕ, ◌≡◌, Bool, List}}
use Rattle.{std.proofs.Common.{false, inl, inr, refl, subst, sym, true}, base.specs.declared.{ids.ObjId.ObjId, refusal.Cause.Cause}}
use Rattle.machine.specs.declared.{call.Call.{Call, Call as call}, object.{Notification.Notification, Object.Object as o}}
use Rattle.machine.specs.declared.{slot_address.{Ends.Ends, SlotAddress.SlotAddress}, thread.{Lent.Lent, Receiving.Receiving}}
use Rattle.machine.specs.{declared.thread.{RunState.RunState as state, Sending.Sending}, Machine.{Machine, object_of, with_object}}
use Rattle.machine.specs.Releasing.{given, ready, with_blocked, with_called, with_halted, with_ready}
use Rattle.machine.specs.Step.{Bind.{thread_on, with_handed, without_thread}, Deliver.{answer_through, arrival_of, delivered}}
use Rattle.machine.specs.Step.{Deliver.{linked, message_of, sent, with_arrival}, Receive.{awaiting_message, with_reply_ended}}
use Rattle.machine.specs.Step.{Reply.{gives_back, with_returned}, Send.{called_through, loan_made, with_lent}}
use Rattle.steps.proofs.{Arrival.arrives, Calls.CallDone, PollRow.PollDone, ReceiveRow.ReceiveDone, ReplyRow.ReplyDone}
use Rattle.steps.proofs.{SendRow.{EndpointCallDone, SendDone}, SignalRow.{SignalDone, roused}, SlotRows.target_leads, WaitRow.WaitDone}
use Rattle.noninterference.{specs.Fixed.{NeedsNodeOrThread, StaysFixed}, proofs.Finds.{IsFixedAt, finds_no_taker, finds_no_thread}}
use Rattle.noninterference.proofs.{Finds.leads_nowhere, Staying.{blocked_stays, called_stays, emptied_stays, fixed_stays, halted_stays}}
use Rattle.noninterference.proofs.Staying.{handed_stays, holder_halted_stays, named_stays, object_stays, released_stays, share_stays}
use Rattle.noninterference.proofs.Staying.{stays_along, stays_itself, unbound_stays, word_stays}
use Rattle.machine.specs.declared.object.ReplyState.TheVariants as reply

-- a call that needs a capability for a CNode or for a thread isn't done
pub none_done :
    (m next : Machine) (caller : ObjId) → IsFixedAt m → (which : Call) → NeedsNodeOrThread which → CallDone m caller which next → ⊥
none_done m next caller fixed (call.Copy to from rights) needs done =
    leads_nowhere m fixed caller to done.target done.finds.leads_to
none_done m next caller fixed (call.Mint to from rights gift) needs done =
    leads_nowhere m fixed caller to done.target done.finds.leads_to
none_done m next caller fixed (call.Move to from) needs done = leads_nowhere m fixed caller to done.target done.finds.leads_to
none_done m next caller fixed (call.Delete slot) needs done =
    leads_nowhere m fixed caller slot done.slot (target_leads m caller slot done.slot done.found)
none_done m next caller fixed (call.Revoke slot) needs done =
    leads_nowhere m fixed caller slot done.slot (target_leads m caller slot done.slot done.found)
none_done m next caller fixed (call.Retype untyped of bits to offset count) needs done =
    finds_no_taker m fixed caller to done.node done.takes
none_done m next caller fixed (call.SetSpace thread space) needs done = finds_no_thread m fixed caller thread done.thread done.finds
none_done m next caller fixed (call.ClearSpace thread) needs done = finds_no_thread m fixed caller thread done.thread done.finds
none_done m next caller fixed (call.Suspend thread) needs done = finds_no_thread m fixed caller thread done.thread done.finds
none_done m next caller fixed (call.Resume thread) needs done = finds_no_thread m fixed caller thread done.thread done.finds
none_done m next caller fixed (call.Bind context thread) needs done =
    finds_no_thread m fixed caller thread done.thread done.finds_thread
none_done m next caller fixed _ needs done = needs

-- no capability arrives with a message
none_arrives :
    (m : Machine) → IsFixedAt m → (sender : ObjId) (sending : Sending) (receiver : ObjId) (slot : Option SlotAddress)
    → StaysFixed m (with_arrival m (arrival_of m sender sending receiver slot))
none_arrives m fixed sender sending receiver slot = by_result (arrival_of m sender sending receiver slot) refl where
  by_result :
      (r : Result Ends Cause) → arrival_of m sender sending receiver slot ≡ r → StaysFixed m (with_arrival m r)
  by_result (Ok ends) e =
      let arrival = arrives m sender sending receiver slot ends e in
      absurd (leads_nowhere m fixed receiver arrival.to ends.target arrival.leads_to)
  by_result (Err cause) e = stays_itself m

delivered_stays :
    (m : Machine) → IsFixedAt m → (sender : ObjId) (sending : Sending) (receiver : ObjId) (receiving : Receiving)
    → StaysFixed m (delivered m sender sending receiver receiving)
unfolding delivered
delivered_stays m fixed sender sending receiver receiving =
    let arrival = arrival_of m sender sending receiver receiving.slot in
    stays_along m (with_arrival m arrival) _ (none_arrives m fixed sender sending receiver receiving.slot)
    (released_stays (with_arrival m arrival) receiver (given (message_of sending (is_ok arrival))) (λ tcb. refl))

-- a thread whose message was delivered

linked_stays : (m : Machine) (thread : ObjId) (through : Option ObjId) → StaysFixed m (linked m thread through)
linked_stays m thread None = halted_stays m thread
linked_stays m thread (Some id) =
    stays_along m (with_halted m thread) _ (halted_stays m thread)
    (called_stays (with_halted m thread) thread (record { reply = id; lent = None }))

sent_stays : (m : Machine) (sender : ObjId) (sending : Sending) (named : Option ObjId) → StaysFixed m (sent m sender sending named)
sent_stays m sender sending named = by_call sending.is_call where
  by_call :
      (is_call : Bool)
      → StaysFixed m (if is_call then linked m sender (answer_through sending named) else with_ready m sender)
  by_call true = linked_stays m sender (answer_through sending named)
  by_call false = released_stays m sender ready (λ tcb. refl)

lent_stays : (m : Machine) (caller : ObjId) (lent : Option Lent) → StaysFixed m (with_lent m caller lent)
lent_stays m caller None = stays_itself m
lent_stays m caller (Some lent) = handed_stays m caller lent.borrower

called_through_stays :
    (m : Machine) (caller receiver : ObjId) (through : Option ObjId) → StaysFixed m (called_through m caller receiver through)
called_through_stays m caller receiver None = halted_stays m caller
called_through_stays m caller receiver (Some id) =
    let halts : Machine = with_halted m caller in
    let calls : Machine = with_called halts caller (record { reply = id; lent = loan_made m caller receiver }) in
    stays_along m halts _ (halted_stays m caller)
    (stays_along halts calls _ (called_stays halts caller (record { reply = id; lent = loan_made m caller receiver }))
    (lent_stays calls caller (loan_made m caller receiver)))

ended_stays : (m : Machine) (named : Option ObjId) → StaysFixed m (with_reply_ended m named)
ended_stays m None = stays_itself m
ended_stays m (Some id) = holder_halted_stays m id

awaiting_stays : (m : Machine) (caller : ObjId) (receiving : Receiving) → StaysFixed m (awaiting_message m caller receiving)
awaiting_stays m caller receiving =
    let waits : Machine = with_blocked m caller receiving.endpoint (state.Receiving receiving) in
    stays_along m waits _ (blocked_stays m caller receiving.endpoint (state.Receiving receiving))
    (named_stays waits receiving.reply (reply.Waiting caller))

returned_stays : (m : Machine) (invoker called : ObjId) → StaysFixed m (with_returned m invoker called)
returned_stays m invoker called = by_test (gives_back m invoker called) where
  by_test : (gives : Bool) → StaysFixed m (if gives then with_handed m invoker called else m)
  by_test true = handed_stays m invoker called
  by_test false = stays_itself m

no_thread_stays : (m : Machine) (thread : Option ObjId) → StaysFixed m (without_thread m thread)
no_thread_stays m None = stays_itself m
no_thread_stays m (Some thread) = unbound_stays m thread

-- call by call
module _ (m next : Machine) (caller : ObjId) where
  -- the next machine is one that stays
  abbrev as_next : (after : Machine) → next ≡ after → StaysFixed m after → StaysFixed m next
  as_next after is stays = subst (λ (n : Machine). StaysFixed m n) (sym is) stays

  notification_stays :
      (id : ObjId) (old new : Notification) → object_of m id ≡ Some (o.Notification old) → new.address ≡ old.address
      → StaysFixed m (with_object m id (o.Notification new))
  notification_stays id old new there address =
      object_stays m id (o.Notification old) (o.Notification new) there (λ still. still) refl address

  signal_stays : (address : ℕ) → SignalDone m caller address next → StaysFixed m next
  signal_stays address done =
      let id = done.open_to.id in
      elim done.changes as (λ _. StaysFixed m next) [
        | inl wakes ↦ as_next _ wakes.changes (released_stays m wakes.first (roused done.open_to.end.badge) (λ tcb. refl))
        | inr joins ↦ as_next _ joins (notification_stays id done.open_to.notification _ done.open_to.there refl)
      ]

  poll_stays : (address : ℕ) → PollDone m caller address next → StaysFixed m next
  poll_stays address done =
      as_next _ done.changes (notification_stays done.open_to.id done.open_to.notification _ done.open_to.there refl)

  wait_stays : (address : ℕ) → WaitDone m caller address next → StaysFixed m next
  wait_stays address done =
      let id = done.open_to.id in
      elim done.changes as (λ _. StaysFixed m next) [
        | inl taken ↦ as_next _ taken (notification_stays id done.open_to.notification _ done.open_to.there refl)
        | inr blocks ↦ as_next _ blocks (blocked_stays m caller id (state.Waiting id))
      ]

  send_stays :
      IsFixedAt m → (address : ℕ) (words : List ℕ) (capability : Option ℕ) → SendDone m caller address words capability next
      → StaysFixed m next
  send_stays fixed address words capability done =
      elim done.changes as (λ _. StaysFixed m next) [
        | inl w ↦ as_next _ w.3 (delivered_stays m fixed caller _ w.0 w.1)
        | inr w ↦ as_next _ w.1 (blocked_stays m caller done.open_to.id _)
      ]

  endpoint_call_stays :
      IsFixedAt m → (address : ℕ) (words : List ℕ) (capability : Option ℕ) → EndpointCallDone m caller address words capability next
      → StaysFixed m next
  endpoint_call_stays fixed address words capability done =
      elim done.changes as (λ _. StaysFixed m next) [
        | inl w ↦ as_next _ w.3
            (stays_along m _ _ (delivered_stays m fixed caller _ w.0 w.1) (called_through_stays _ caller w.0 _))
        | inr w ↦ as_next _ w.1 (blocked_stays m caller done.open_to.id _)
      ]

  receive_stays :
      IsFixedAt m → (address : ℕ) (named : Option ℕ) (slot : Option SlotAddress) → ReceiveDone m caller address named slot next
      → StaysFixed m next
  receive_stays fixed address named slot done =
      let ended : Machine = with_reply_ended m done.reply in
      let ends : StaysFixed m ended = ended_stays m done.reply in
      let still : IsFixedAt ended = fixed_stays m ended fixed ends in
      elim done.changes as (λ _. StaysFixed m next) [
        | inl w ↦ as_next _ w.3
            (stays_along m ended _ ends
            (stays_along ended _ _ (none_arrives ended still w.0 w.1 caller slot) (sent_stays _ w.0 w.1 done.reply)))
        | inr w ↦ as_next _ w.1 (stays_along m ended _ ends (awaiting_stays ended caller _))
      ]

  reply_stays : (address : ℕ) (words : List ℕ) → ReplyDone m caller address words next → StaysFixed m next
  reply_stays address words done =
      elim done.changes as (λ _. StaysFixed m next) [
        | inl w ↦ as_next _ w.3
            (stays_along m _ _ (returned_stays m caller w.0) (released_stays _ w.0 (given _) (λ tcb. refl)))
        | inr same ↦ as_next m same (stays_itself m)
      ]

  pub call_stays : IsFixedAt m → (which : Call) → CallDone m caller which next → StaysFixed m next
  call_stays fixed (call.Signal address) done = signal_stays address done
  call_stays fixed (call.Poll address) done = poll_stays address done
  call_stays fixed (call.Wait address) done = wait_stays address done
  call_stays fixed (call.Send address words capability) done = send_stays fixed address words capability done
  call_stays fixed (call.Call address words capability) done = endpoint_call_stays fixed address words capability done
  call_stays fixed (call.Receive address named slot) done = receive_stays fixed address named slot done
  call_stays fixed (call.Reply address words) done = reply_stays address words done
  call_stays fixed call.Fetch done = as_next _ done.changes (emptied_stays m caller)
  call_stays fixed (call.Read address index) done = as_next m done (stays_itself m)
  call_stays fixed (call.Write address index word) done = as_next _ done.changes (word_stays m done.id index word)
  call_stays fixed (call.Configure control context budget period) done = as_next _ done.changes (share_stays m done.id done.share)
  call_stays fixed (call.Unbind context) done = as_next _ done.changes (no_thread_stays m (thread_on (object_of m done.id)))
  call_stays fixed (call.Copy to from rights) done = absurd (none_done m next caller fixed (call.Copy to from rights) tt done)
  call_stays fixed (call.Mint to from rights gift) done = absurd (none_done m next caller fixed (call.Mint to from rights gift) tt done)
  call_stays fixed (call.Move to from) done = absurd (none_done m next caller fixed (call.Move to from) tt done)
  call_stays fixed (call.Delete slot) done = absurd (none_done m next caller fixed (call.Delete slot) tt done)
  call_stays fixed (call.Revoke slot) done = absurd (none_done m next caller fixed (call.Revoke slot) tt done)
  call_stays fixed (call.Retype untyped of bits to offset count) done =
      absurd (none_done m next caller fixed (call.Retype untyped of bits to offset count) tt done)
  call_stays fixed (call.SetSpace thread space) done = absurd (none_done m next caller fixed (call.SetSpace thread space) tt done)
  call_stays fixed (call.ClearSpace thread) done = absurd (none_done m next caller fixed (call.ClearSpace thread) tt done)
  call_stays fixed (call.Suspend thread) done = absurd (none_done m next caller fixed (call.Suspend thread) tt done)
  call_stays fixed (call.Resume thread) done = absurd (none_done m next caller fixed (call.Resume thread) tt done)
  call_stays fixed (call.Bind context thread) done = absurd (none_done m next caller fixed (call.Bind context thread) tt done)
