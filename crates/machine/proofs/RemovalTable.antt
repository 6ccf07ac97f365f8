-- Vanished objects of each kind, and what becomes of the objects that stay.
use Rattle.std.{specs.Prelude.{All, Contains, None, Option, Some, if◌then◌else◌, option_map}, proofs.Common.{◌∙◌, ◌≡◌, Bool, List, ap}}
use Rattle.std.proofs.{Common.{cond, false, not, refl, subst, sym, true}, lemmas.{Bool.false≢true, List.Elements.All-contains}}
use Rattle.std.proofs.lemmas.{List.Elements.filter_passes, Option.{none-some, same_Some}}
use Rattle.base.specs.declared.ids.{ObjId.ObjId, SlotRef.SlotRef}
use Rattle.machine.specs.declared.object.{Context.Context, Object.{Object, Object as o}, Reply.Reply, ReplyState.ReplyState}
use Rattle.machine.specs.declared.object.ReplyState.TheVariants as reply
use Rattle.machine.specs.{declared.thread.{RunState.RunState, Tcb.Tcb}, Finalising.{IsHolding, aborted, finalised, halted, has_links}}
use Rattle.machine.specs.declared.thread.RunState.TheVariants as state
use Rattle.machine.specs.Finalising.{is_aborted, is_halted, leads_nowhere, leaves, link_after, reply_after, staying_in, tcb_after, unbound}
use Rattle.machine.specs.{Machine.{Machine, object_of, queue_of}, Removal.{removed, vanishes}, WellFormed.IsCallingThrough}
use Rattle.machine.{specs.WellFormed.{IsReceivingWith, IsThread, IsWellFormed, WaitsAt}, proofs.RemovalLooks.object_of-removed}
use Rattle.machine.proofs.{RemovalLooks.queue_of-removed, RoundLemmas.not_passes}

-- a run state that waits at a vanished object is aborted, or halted
pub waits_aborted :
    (vanished : ObjId → Bool) (run : RunState) (id : ObjId) → WaitsAt run id → vanished id ≡ true → is_aborted vanished run ≡ true
waits_aborted vanished (state.Sending sending) id at gone = ap vanished at ∙ gone
waits_aborted vanished (state.Receiving receiving) id at gone = ap vanished at ∙ gone
waits_aborted vanished (state.Waiting notification) id at gone = ap vanished at ∙ gone
waits_aborted vanished _ id at gone = absurd at

pub receiver_halted :
    (vanished : ObjId → Bool) (run : RunState) (id : ObjId) → IsReceivingWith run id → vanished id ≡ true
    → is_halted vanished run ≡ true
receiver_halted vanished (state.Receiving receiving) id named gone = ap (leads_nowhere vanished) named ∙ gone
receiver_halted vanished _ id named gone = absurd named

pub calling_halted :
    (vanished : ObjId → Bool) (run : RunState) (id : ObjId) → IsCallingThrough run id → vanished id ≡ true
    → is_halted vanished run ≡ true
calling_halted vanished (state.Called calling) id named gone = ap vanished named ∙ gone
calling_halted vanished _ id named gone = absurd named

pub one_thread : (m : Machine) (thread : ObjId) (one other : Tcb) → IsThread m thread one → IsThread m thread other → one ≡ other
one_thread m thread one other is there = tcb_of (sym is ∙ there) where
  content : Tcb → Object → Tcb
  content otherwise (o.Tcb tcb) = tcb
  content otherwise _ = otherwise

  tcb_of : ◌≡◌ {A = Option Object} (Some (o.Tcb one)) (Some (o.Tcb other)) → one ≡ other
  tcb_of e = ap (content one) (same_Some (o.Tcb one) (o.Tcb other) e)

module _ (m : Machine) (chosen : SlotRef → Bool) where
  abbrev vanished : ObjId → Bool
  vanished = vanishes m chosen

  pub finalised_there :
      (id : ObjId) (object : Object) → object_of m id ≡ Some object → vanished id ≡ false
      → object_of (removed m chosen) id ≡ Some (finalised m vanished object)
  finalised_there id object there stays =
      object_of-removed m chosen id ∙ ap (λ b. cond b None (option_map (finalised m vanished) (object_of m id))) stays
      ∙ ap (option_map (finalised m vanished)) there

  pub halts :
      (thread : ObjId) (tcb : Tcb) → IsThread m thread tcb → vanished thread ≡ false → is_halted vanished tcb.state ≡ true
      → IsThread (removed m chosen) thread (unbound vanished (halted tcb))
  halts thread tcb there stays is =
      finalised_there thread (o.Tcb tcb) there stays
      ∙ ap (λ b. Some (o.Tcb (unbound vanished (cond b (halted tcb) (cond (is_aborted vanished tcb.state) (aborted tcb) tcb))))) is

  pub aborts :
      (thread : ObjId) (tcb : Tcb) → IsThread m thread tcb → vanished thread ≡ false → is_halted vanished tcb.state ≡ false
      → is_aborted vanished tcb.state ≡ true
      → IsThread (removed m chosen) thread (unbound vanished (aborted tcb))
  aborts thread tcb there stays isnt is =
      finalised_there thread (o.Tcb tcb) there stays
      ∙ ap (λ b. Some (o.Tcb (unbound vanished (cond b (halted tcb) (cond (is_aborted vanished tcb.state) (aborted tcb) tcb))))) isnt
      ∙ ap (λ b. Some (o.Tcb (unbound vanished (cond b (aborted tcb) tcb)))) is

  -- each thread in the queue of a vanished object is aborted, unless its reply vanished too
  pub queued_aborted :
      IsWellFormed m → (id thread : ObjId) (threads : List ObjId) (tcb : Tcb) → vanished id ≡ true → queue_of m id ≡ Some threads
      → Contains threads thread → IsThread m thread tcb → vanished thread ≡ false → is_halted vanished tcb.state ≡ false
      → IsThread (removed m chosen) thread (unbound vanished (aborted tcb))
  queued_aborted formed id thread threads tcb gone queue in_queue there stays isnt =
      let is = formed.links.queued id threads thread queue in_queue in
      let same : is.0 ≡ tcb = one_thread m thread is.0 tcb is.2 there in
      aborts thread tcb there stays isnt
      (subst (λ (t : Tcb). is_aborted vanished t.state ≡ true) same (waits_aborted vanished is.0.state id is.3 gone))

  -- the thread that waits with a vanished reply, or has called it, is halted
  pub holder_halted :
      IsWellFormed m → (id thread : ObjId) (holding : Reply) (tcb : Tcb) → vanished id ≡ true → object_of m id ≡ Some (o.Reply holding)
      → IsHolding holding.state thread → IsThread m thread tcb → vanished thread ≡ false
      → IsThread (removed m chosen) thread (unbound vanished (halted tcb))
  holder_halted formed id thread holding tcb gone held is there stays =
      halts thread tcb there stays (by_state holding.state (held ∙ refl) is) where
        by_state :
            (state : ReplyState) → object_of m id ≡ Some (o.Reply (record { address = holding.address; state = state }))
            → IsHolding state thread → is_halted vanished tcb.state ≡ true
        by_state (reply.Waiting waiter) at same =
            let is = formed.links.waiting_reply id waiter holding.address at in
            let one : is.0 ≡ tcb = one_thread m thread is.0 tcb (ap (object_of m) (sym same) ∙ is.1) there in
            subst (λ (t : Tcb). is_halted vanished t.state ≡ true) one (receiver_halted vanished is.0.state id is.2 gone)
        by_state (reply.Called caller) at same =
            let is = formed.links.reply_called id caller holding.address at in
            let one : is.0 ≡ tcb = one_thread m thread is.0 tcb (ap (object_of m) (sym same) ∙ is.1) there in
            subst (λ (t : Tcb). is_halted vanished t.state ≡ true) one (calling_halted vanished is.0.state id is.2 gone)
        by_state reply.Free at same = absurd same

  -- a reply that stays is free if the thread that it holds leaves, else as it was
  pub reply_stays :
      (id thread : ObjId) (holding : Reply) → object_of m id ≡ Some (o.Reply holding) → IsHolding holding.state thread
      → vanished id ≡ false
      → object_of (removed m chosen) id ≡ Some (o.Reply (record holding { state = if leaves m vanished thread then reply.Free else holding.state }))
  reply_stays id thread holding held is stays =
      finalised_there id (o.Reply holding) held stays
      ∙ ap (λ (s : ReplyState). Some (o.Reply (record holding { state = s }))) (by_state holding.state is) where
        by_state :
            (state : ReplyState) → IsHolding state thread → reply_after m vanished state ≡ cond (leaves m vanished thread) reply.Free state
        by_state (reply.Waiting waiter) same = ap (λ (t : ObjId). cond (leaves m vanished t) reply.Free (reply.Waiting waiter)) same
        by_state (reply.Called caller) same = ap (λ (t : ObjId). cond (leaves m vanished t) reply.Free (reply.Called caller)) same
        by_state reply.Free same = absurd same

  -- a context whose thread vanished is bound to none
  pub context_unbound :
      (id thread : ObjId) (context : Context) → object_of m id ≡ Some (o.Context context) → context.thread ≡ Some thread
      → vanished thread ≡ true → vanished id ≡ false
      → object_of (removed m chosen) id ≡ Some (o.Context (record context { thread = None }))
  context_unbound id thread context there bound gone stays =
      finalised_there id (o.Context context) there stays
      ∙ ap (λ b. Some (o.Context (record context { thread = cond b None context.thread })))
      (ap (leads_nowhere vanished) bound ∙ gone)

  -- a thread that is reached in none of these ways is as it was
  pub thread_untouched :
      (thread : ObjId) (tcb : Tcb) → IsThread m thread tcb → vanished thread ≡ false → is_halted vanished tcb.state ≡ false
      → is_aborted vanished tcb.state ≡ false → leads_nowhere vanished tcb.context ≡ false
      → IsThread (removed m chosen) thread tcb
  thread_untouched thread tcb there stays not_halted not_aborted bound =
      finalised_there thread (o.Tcb tcb) there stays
      ∙ ap (λ b. Some (o.Tcb (unbound vanished (cond b (halted tcb) (cond (is_aborted vanished tcb.state) (aborted tcb) tcb))))) not_halted
      ∙ ap (λ b. Some (o.Tcb (unbound vanished (cond b (aborted tcb) tcb)))) not_aborted
      ∙ ap (λ b. Some (o.Tcb (record tcb { context = cond b None tcb.context }))) bound

  -- a thread whose context vanished has none
  pub context_lost :
      IsWellFormed m → (id thread : ObjId) (context : Context) (tcb : Tcb) → vanished id ≡ true
      → object_of m id ≡ Some (o.Context context) → context.thread ≡ Some thread → IsThread m thread tcb → vanished thread ≡ false
      → (after : Tcb) × IsThread (removed m chosen) thread after × (after.context ≡ None)
  context_lost formed id thread context tcb gone at bound there stays =
      (tcb_after vanished tcb, finalised_there thread (o.Tcb tcb) there stays, by_ways (is_halted vanished tcb.state) (is_aborted vanished tcb.state)) where
        lost : link_after vanished tcb.context ≡ None
        lost =
            let is = formed.links.context_thread id thread context at bound in
            let one : is.0 ≡ tcb = one_thread m thread is.0 tcb is.1 there in
            let its : tcb.context ≡ Some id = subst (λ (t : Tcb). t.context ≡ Some id) one is.2 in
            ap (λ b. cond b None tcb.context) (ap (leads_nowhere vanished) its ∙ gone)

        by_ways :
            (halts aborts : Bool)
            → (unbound vanished (cond halts (halted tcb) (cond aborts (aborted tcb) tcb))).context ≡ None
        by_ways true aborts = lost
        by_ways false true = lost
        by_ways false false = lost

  -- an object without links is as it was
  pub unlinked_stays :
      (id : ObjId) (object : Object) → object_of m id ≡ Some object → vanished id ≡ false → has_links object ≡ false
      → object_of (removed m chosen) id ≡ Some object
  unlinked_stays id object there stays none =
      finalised_there id object there stays ∙ ap Some (by_kind object none) where
        by_kind : (object : Object) → has_links object ≡ false → finalised m vanished object ≡ object
        by_kind (o.Tcb tcb) linked = absurd (false≢true (sym linked))
        by_kind (o.Reply holding) linked = absurd (false≢true (sym linked))
        by_kind (o.Context context) linked = absurd (false≢true (sym linked))
        by_kind _ linked = refl

  -- a thread that left is in no queue
  pub queue_left :
      (id thread : ObjId) (threads : List ObjId) → queue_of (removed m chosen) id ≡ Some threads → Contains threads thread
      → leaves m vanished thread ≡ false
  queue_left id thread threads there in_queue =
      by_queue (vanished id) (queue_of m id) (sym (queue_of-removed m chosen id) ∙ there) where
        by_queue :
            (gone : Bool) (queue : Option (List ObjId)) → cond gone None (option_map (staying_in m vanished) queue) ≡ Some threads
            → leaves m vanished thread ≡ false
        by_queue true queue e = absurd (none-some threads e)
        by_queue false None e = absurd (none-some threads e)
        by_queue false (Some queue) e =
            not_passes (leaves m vanished thread)
            (All-contains (λ t. not (leaves m vanished t) ≡ true) threads thread
            (subst (λ ts. All (λ t. not (leaves m vanished t) ≡ true) ts) (same_Some (staying_in m vanished queue) threads e)
            (filter_passes (λ t. not (leaves m vanished t)) queue))
            in_queue)
