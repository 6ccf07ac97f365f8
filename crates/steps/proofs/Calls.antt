-- That a step that was made has an admitted caller, that its call did what its row says, and that the machine stays well formed.
use Rattle.std.{specs.Prelude.{Bool, Err, None, Ok, Result, Some, option_map}, proofs.Common.{[], ℕ, ◌∙◌, ◌∷◌, ◌≡◌, ◌≢◌, ◌⊎◌, List, ap}}
use Rattle.{std.proofs.Common.{inl, inr, refl, subst, sym}, base.specs.declared.{ids.{ObjId.ObjId, SlotRef.SlotRef}, refusal.Cause.Cause}}
use Rattle.machine.specs.declared.{call.{Call.{Call, Call as call}, Event.Event, Made.Made, Outcome.Outcome}, cap.Cap.Cap}
use Rattle.machine.specs.declared.object.{Notification.Notification, Object.{Object, Object as o}, ObjectKind.ObjectKind as kind}
use Rattle.machine.specs.{declared.{slot_address.SlotAddress.SlotAddress, thread.RunState.RunState as state}, Below.is_below}
use Rattle.machine.specs.{Machine.{Machine, cap_of, object_of, same_slot, with_object}, Makes.Makes, Objects.kind_of_object}
use Rattle.machine.specs.{Releasing.with_blocked, Removal.removed, Run.Run, Step.{ChangesCaller, Step, Step.{ends, lacks}, admitted}}
use Rattle.machine.{specs.{Step.{call_of, made_by, settled, step_of}, WellFormed.IsWellFormed}, proofs.LookUps.object_of-with_object}
use Rattle.steps.proofs.{Admission.{IsCaller, admits}, Conditions.both_done, ContextLinks.{binds_formed, object_binds}, ContextRow.BindDone}
use Rattle.steps.proofs.{ContextRow.{ConfigureDone, UnbindDone, bind_done, configure_done, unbind_done}, ContextsFormed.bind_formed}
use Rattle.steps.proofs.{ContextsFormed.{configure_formed, unbind_formed}, FetchRow.{FetchDone, fetch_done}, FillsFormed.derives_formed}
use Rattle.steps.proofs.{MessageFormed.{blocked_formed, released_formed}, MessageRows.{caller_idle, endpoint_call_formed, fetch_formed}}
use Rattle.steps.proofs.{MessageRows.{receive_formed, reply_formed, send_formed}, MovesFormed.move_formed, NotificationRow.none_sends}
use Rattle.steps.proofs.{PollRow.{PollDone, poll_done}, ReceiveRow.{ReceiveDone, receive_done}, RemovalNumbers.removed_formed}
use Rattle.steps.proofs.{RemovalRows.{RemovalDone, delete_done, revoke_done}, ReplyRow.{ReplyDone, reply_done}, RetypeFormed.retype_formed}
use Rattle.steps.proofs.{RetypeRow.{RetypeDone, retype_done}, SendRow.{EndpointCallDone, SendDone, endpoint_call_done, send_done}}
use Rattle.steps.proofs.{SetObject.{other_after, other_before}, SignalRow.{SignalDone, Wakes, marked, roused, signal_done}}
use Rattle.steps.proofs.{SlotRows.{Derives, MoveDone, copy_done, mint_done, move_done}, SpaceFormed.{clear_formed, set_formed}}
use Rattle.steps.proofs.{SpaceRow.{ClearDone, SetDone, clear_done, set_done}, ThreadFormed.{resume_formed, suspend_formed}}
use Rattle.steps.proofs.{ThreadRow.{ResumeDone, SuspendDone, resume_done, suspend_done}, WaitRow.{WaitDone, wait_done}}
use Rattle.steps.proofs.{WordsFormed.{read_formed, write_formed}, WordsRow.{WriteDone, read_done, write_done}}

-- a notification's word changes
module _ (m : Machine) (id : ObjId) (old new : Notification) (was : object_of m id ≡ Some (o.Notification old))
    (same_address : new.address ≡ old.address) (formed : IsWellFormed m) where
  abbrev after : Machine
  after = with_object m id (o.Notification new)

  was_so : (q : ObjId) (other : Object) → other ≢ o.Notification new → object_of after q ≡ Some other → object_of m q ≡ Some other
  was_so = other_before m after id (o.Notification new) (object_of-with_object m id (o.Notification new))

  is_so : (q : ObjId) (other : Object) → other ≢ o.Notification old → object_of m q ≡ Some other → object_of after q ≡ Some other
  is_so = other_after m after id (o.Notification new) (object_of-with_object m id (o.Notification new)) (o.Notification old) was

  word_formed : IsWellFormed after
  word_formed =
      binds_formed m after
      (object_binds m id (o.Notification old) (o.Notification new) was
      (λ i. o.Notification (record { address = same_address i; pending = None })))
      (record {
        thread_context =
            λ thread q tcb e runs.
            let w = formed.links.thread_context thread q tcb (was_so thread (o.Tcb tcb) (λ same. cc) e) runs in
            (w.0, is_so q (o.Context w.0) (λ same. cc) w.1, w.2);
        context_thread =
            λ q thread context e runs.
            let w = formed.links.context_thread q thread context (was_so q (o.Context context) (λ same. cc) e) runs in
            (w.0, is_so thread (o.Tcb w.0) (λ same. cc) w.1, w.2);
      })
      formed

signal_formed :
    (m : Machine) (caller : ObjId) (address : ℕ) (next : Machine) → IsWellFormed m → SignalDone m caller address next
    → IsWellFormed next
signal_formed m caller address next formed done = by_case done.changes where
  by_case :
      Wakes m done.open_to.id done.open_to.end.badge next
      ⊎ (next ≡ with_object m done.open_to.id (o.Notification (marked done.open_to.notification done.open_to.end.badge)))
      → IsWellFormed next
  by_case (inl wakes) =
      subst IsWellFormed (sym wakes.changes)
      (released_formed m wakes.first wakes.thread (roused done.open_to.end.badge) formed wakes.there refl refl tt)
  by_case (inr joins) =
      subst IsWellFormed (sym joins)
      (word_formed m done.open_to.id done.open_to.notification _ done.open_to.there refl formed)

poll_formed :
    (m : Machine) (caller : ObjId) (address : ℕ) (next : Machine) → IsWellFormed m → PollDone m caller address next
    → IsWellFormed next
poll_formed m caller address next formed done =
    subst IsWellFormed (sym done.changes)
    (word_formed m done.open_to.id done.open_to.notification _ done.open_to.there refl formed)

wait_formed :
    (m : Machine) (caller : ObjId) (address : ℕ) (next : Machine) → IsWellFormed m → IsCaller m caller
    → WaitDone m caller address next → IsWellFormed next
wait_formed m caller address next formed is done = by_case done.changes where
  by_case :
      (next ≡ with_object m done.open_to.id (o.Notification (record done.open_to.notification { pending = None })))
      ⊎ (next ≡ with_blocked m caller done.open_to.id (state.Waiting done.open_to.id)) → IsWellFormed next
  by_case (inl taken) =
      subst IsWellFormed (sym taken)
      (word_formed m done.open_to.id done.open_to.notification _ done.open_to.there refl formed)
  by_case (inr blocks) =
      let open_to = done.open_to in
      subst IsWellFormed (sym blocks)
      (blocked_formed m caller open_to.id is.thread (state.Waiting open_to.id) kind.Notification formed is.there
      (caller_idle m caller is) (ap (option_map kind_of_object) open_to.there) refl tt (λ named none. none)
      (none_sends m open_to.id open_to.notification open_to.there formed.links))

removal_formed :
    (m : Machine) (caller : ObjId) (address : SlotAddress) (chosen : SlotRef → SlotRef → Bool) (next : Machine) → IsWellFormed m
    → RemovalDone m caller address chosen next → IsWellFormed next
removal_formed m caller address chosen next formed done = by_case done.after where
  by_case :
      ((cap_of m done.slot ≡ None) × (next ≡ m))
      ⊎ ((held : Cap) × (cap_of m done.slot ≡ Some held) × (next ≡ removed m (chosen done.slot))) → IsWellFormed next
  by_case (inl none) = subst IsWellFormed (sym none.1) formed
  by_case (inr some) = subst IsWellFormed (sym some.2) (removed_formed m (chosen done.slot) formed)

-- what a call did, by its row
abbrev pub CallDone : Machine → ObjId → Call → Machine → Type 0
CallDone m caller (call.Signal address) next = SignalDone m caller address next
CallDone m caller (call.Poll address) next = PollDone m caller address next
CallDone m caller (call.Wait address) next = WaitDone m caller address next
CallDone m caller (call.Send address words capability) next = SendDone m caller address words capability next
CallDone m caller (call.Call address words capability) next = EndpointCallDone m caller address words capability next
CallDone m caller (call.Receive address reply slot) next = ReceiveDone m caller address reply slot next
CallDone m caller (call.Reply address words) next = ReplyDone m caller address words next
CallDone m caller call.Fetch next = FetchDone m caller next
CallDone m caller (call.Copy to from rights) next = Derives m caller to from next
CallDone m caller (call.Mint to from rights given) next = Derives m caller to from next
CallDone m caller (call.Move to from) next = MoveDone m caller to from next
CallDone m caller (call.Delete slot) next = RemovalDone m caller slot same_slot next
CallDone m caller (call.Revoke slot) next = RemovalDone m caller slot (is_below m) next
CallDone m caller (call.Retype untyped kind bits to offset count) next = RetypeDone m caller untyped kind bits to offset count next
CallDone m caller (call.Read address index) next = next ≡ m
CallDone m caller (call.Write address index word) next = WriteDone m caller address index word next
CallDone m caller (call.SetSpace thread space) next = SetDone m caller thread space next
CallDone m caller (call.ClearSpace thread) next = ClearDone m caller thread next
CallDone m caller (call.Suspend thread) next = SuspendDone m caller thread next
CallDone m caller (call.Resume thread) next = ResumeDone m caller thread next
CallDone m caller (call.Configure control context budget period) next = ConfigureDone m caller control context budget period next
CallDone m caller (call.Bind context thread) next = BindDone m caller context thread next
CallDone m caller (call.Unbind context) next = UnbindDone m caller context next

pub call_done :
    (m : Machine) (caller : ObjId) (which : Call) (made : Made) (next : Machine) → IsWellFormed m
    → call_of m caller which ≡ Ok (made, next) → CallDone m caller which next
call_done m caller (call.Signal address) made next formed = signal_done m caller address made next formed
call_done m caller (call.Poll address) made next formed = poll_done m caller address made next formed
call_done m caller (call.Wait address) made next formed = wait_done m caller address made next formed
call_done m caller (call.Send address words capability) made next formed =
    send_done m caller address words capability made next formed
call_done m caller (call.Call address words capability) made next formed =
    endpoint_call_done m caller address words capability made next formed
call_done m caller (call.Receive address reply slot) made next formed =
    receive_done m caller address reply slot made next formed
call_done m caller (call.Reply address words) made next formed = reply_done m caller address words made next
call_done m caller call.Fetch made next formed = fetch_done m caller made next
call_done m caller (call.Copy to from rights) made next formed = copy_done m caller to from rights made next formed
call_done m caller (call.Mint to from rights gift) made next formed =
    mint_done m caller to from rights gift made next formed
call_done m caller (call.Move to from) made next formed = move_done m caller to from made next
call_done m caller (call.Delete slot) made next formed = delete_done m caller slot made next
call_done m caller (call.Revoke slot) made next formed = revoke_done m caller slot made next
call_done m caller (call.Retype untyped kind bits to offset count) made next formed =
    retype_done m caller untyped kind bits to offset count made next
call_done m caller (call.Read address index) made next formed = read_done m caller address index made next
call_done m caller (call.Write address index word) made next formed = write_done m caller address index word made next
call_done m caller (call.SetSpace thread space) made next formed = set_done m caller thread space made next
call_done m caller (call.ClearSpace thread) made next formed = clear_done m caller thread made next
call_done m caller (call.Suspend thread) made next formed = suspend_done m caller thread made next
call_done m caller (call.Resume thread) made next formed = resume_done m caller thread made next
call_done m caller (call.Configure control context budget period) made next formed =
    configure_done m caller control context budget period made next
call_done m caller (call.Bind context thread) made next formed = bind_done m caller context thread made next
call_done m caller (call.Unbind context) made next formed = unbind_done m caller context made next

-- an event was made: its caller was admitted, and its call was done
pub record EventDone (m : Machine) (event : Event) (next : Machine) : Type 0 where
  pub caller : IsCaller m event.thread
  pub done : CallDone m event.thread event.call next

pub event_done :
    (m : Machine) (event : Event) (made : Made) (next : Machine) → IsWellFormed m → made_by m event ≡ Ok (made, next)
    → EventDone m event next
unfolding made_by
event_done m event made next formed e =
    let admission = both_done (admitted m event.core event.thread) _ (made, next) e in
    let is = admits m event.core event.thread admission.0 admission.1 in
    record { caller = is; done = call_done m event.thread event.call made next formed admission.2 }

-- an event was made, or nothing changed
pub step_done :
    (m : Machine) (event : Event) (outcome : Outcome) (next : Machine) → IsWellFormed m → Step m event outcome next
    → EventDone m event next ⊎ (next ≡ m)
unfolding step_of
step_done m event outcome next formed (lacks without) = inr without.same
step_done m event outcome next formed (ends e) = by_made (made_by m event) refl e where
  by_made :
      (r : Result (Made × Machine) Cause) → made_by m event ≡ r → settled m r ≡ (outcome, next)
      → EventDone m event next ⊎ (next ≡ m)
  by_made (Ok (made, after)) is same =
      inl (event_done m event made next formed (is ∙ ap (λ (n : Machine). Ok (made, n)) (ap (λ p. p.1) same)))
  by_made (Err cause) is same = inr (sym (ap (λ p. p.1) same))

call_formed :
    (m : Machine) (caller : ObjId) (which : Call) (next : Machine) → IsWellFormed m → (ChangesCaller which → IsCaller m caller)
    → CallDone m caller which next → IsWellFormed next
call_formed m caller (call.Signal address) next formed is = signal_formed m caller address next formed
call_formed m caller (call.Poll address) next formed is = poll_formed m caller address next formed
call_formed m caller (call.Wait address) next formed is = wait_formed m caller address next formed (is tt)
call_formed m caller (call.Send address words capability) next formed is =
    send_formed m caller address words capability next formed (is tt)
call_formed m caller (call.Call address words capability) next formed is =
    endpoint_call_formed m caller address words capability next formed (is tt)
call_formed m caller (call.Receive address reply slot) next formed is =
    receive_formed m caller address reply slot next formed (is tt)
call_formed m caller (call.Reply address words) next formed is = reply_formed m caller address words next formed
call_formed m caller call.Fetch next formed is = fetch_formed m caller next formed (is tt)
call_formed m caller (call.Copy to from rights) next formed is = derives_formed m caller to from next formed
call_formed m caller (call.Mint to from rights gift) next formed is = derives_formed m caller to from next formed
call_formed m caller (call.Move to from) next formed is = move_formed m caller to from next formed
call_formed m caller (call.Delete slot) next formed is = removal_formed m caller slot same_slot next formed
call_formed m caller (call.Revoke slot) next formed is = removal_formed m caller slot (is_below m) next formed
call_formed m caller (call.Retype untyped of bits to offset count) next formed is =
    retype_formed m caller untyped of bits to offset count next formed
call_formed m caller (call.Read address index) next formed is = read_formed m next formed
call_formed m caller (call.Write address index word) next formed is = write_formed m caller address index word next formed
call_formed m caller (call.SetSpace thread space) next formed is = set_formed m caller thread space next formed
call_formed m caller (call.ClearSpace thread) next formed is = clear_formed m caller thread next formed
call_formed m caller (call.Suspend thread) next formed is = suspend_formed m caller thread next formed
call_formed m caller (call.Resume thread) next formed is = resume_formed m caller thread next formed
call_formed m caller (call.Configure control context budget period) next formed is =
    configure_formed m caller control context budget period next formed
call_formed m caller (call.Bind context thread) next formed is = bind_formed m caller context thread next formed
call_formed m caller (call.Unbind context) next formed is = unbind_formed m caller context next formed

-- the code of a call keeps a machine well formed if it does what the call's row says
pub makes_formed :
    (m next : Machine) (caller : ObjId) (which : Call) (result : Result Made Cause) → IsWellFormed m
    → (ChangesCaller which → IsCaller m caller) → Makes m next result (call_of m caller which) → IsWellFormed next
makes_formed m next caller which (Ok made) formed is makes =
    call_formed m caller which next formed is (call_done m caller which made next formed makes)
makes_formed m next caller which (Err cause) formed is makes = subst IsWellFormed (sym makes.1) formed

pub step_formed :
    (m : Machine) (event : Event) (outcome : Outcome) (next : Machine) → IsWellFormed m → Step m event outcome next
    → IsWellFormed next
step_formed m event outcome next formed step = by_case (step_done m event outcome next formed step) where
  by_case : EventDone m event next ⊎ (next ≡ m) → IsWellFormed next
  by_case (inl done) = call_formed m event.thread event.call next formed (λ _. done.caller) done.done
  by_case (inr same) = subst IsWellFormed (sym same) formed

pub run_formed :
    (first : Machine) (events : List Event) (outcomes : List Outcome) (last : Machine) → IsWellFormed first
    → Run first events outcomes last → IsWellFormed last
run_formed first [] [] last formed ran = subst IsWellFormed ran formed
run_formed first [] (outcome ∷ outcomes) last formed ran = absurd ran
run_formed first (event ∷ events) [] last formed ran = absurd ran
run_formed first (event ∷ events) (outcome ∷ outcomes) last formed ran =
    run_formed ran.0 events outcomes last (step_formed first event outcome ran.0 formed ran.1) ran.2
