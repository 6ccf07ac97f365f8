-- Threads that are reached where some objects have lost their links; and that all is finalised once each that goes has.
use Rattle.std.specs.Prelude.{Contains, None, Option, Some, option_map}
use Rattle.std.proofs.Common.{[], ℕ, ◌&&◌, ◌||◌, ◌∙◌, ◌∷◌, ◌≡◌, Bool, List, ap, cond, false, not, refl, sym, true}
use Rattle.{std.proofs.lemmas.{Bool.false≢true, List.Elements.{All-contains_itself, All-weaker}}, base.specs.declared.ids.ObjId.ObjId}
use Rattle.machine.specs.declared.object.{Context.Context, Object.{Object, Object as o}, ReplyState.{ReplyState, ReplyState as reply}}
use Rattle.machine.specs.{declared.thread.Tcb.Tcb, Changes.first_waiting, Finalising.{aborted, finalised, halted, is_aborted, is_halted}}
use Rattle.machine.specs.Finalising.{is_released, leads_nowhere, leaves, link_after, reply_after, staying_in, tcb_after, unbound}
use Rattle.machine.specs.{Machine.{Machine, object_of, queue_of}, Objects.slot_count, Releasing.reply_by, WellFormed.{IsThread, LinksAgree}}
use Rattle.machine.proofs.{Filters.filter_same, Queues.first_in, RemovalTable.waits_aborted}
use Rattle.{steps.proofs.LeavingLinks.{AreReleased, member_was}, objects.specs.Waiting.WaitsNowhere}
use Rattle.removal.{specs.Pass.IsFinalised, proofs.Linked.reached_left}
use Rattle.removal.proofs.Reached.{IsReached, Reach, has_left, leavers, object_by, queue_by, tcb_by}

-- which threads are reached where the objects of a set have lost their links: of those outside the set it is exact; those in the set
-- are halted and unbound, whatever else
pub record IsPart (old : Machine) (done : ObjId → Bool) (reach : Reach) : Type 0 where
  pub halts :
      (thread : ObjId) (tcb : Tcb) → IsThread old thread tcb → done thread ≡ false → reach.halts thread ≡ is_halted done tcb.state
  pub aborts :
      (thread : ObjId) (tcb : Tcb) → IsThread old thread tcb → done thread ≡ false
      → reach.aborts thread ≡ (not (is_halted done tcb.state) && is_aborted done tcb.state)
  pub unbinds :
      (thread : ObjId) (tcb : Tcb) → IsThread old thread tcb → done thread ≡ false
      → reach.unbinds thread ≡ leads_nowhere done tcb.context
  pub halts_it : (thread : ObjId) (tcb : Tcb) → IsThread old thread tcb → done thread ≡ true → reach.halts thread ≡ true
  pub unbinds_it : (thread : ObjId) (tcb : Tcb) → IsThread old thread tcb → done thread ≡ true → reach.unbinds thread ≡ true

pub record Follows (old : Machine) (done : ObjId → Bool) (now : Machine) : Type 0 where
  pub reach : Reach
  pub reached : IsReached old reach now
  pub part : IsPart old done reach

either_way : (h a : Bool) → (h || (not h && a)) ≡ (h || a)
either_way true a = refl
either_way false a = refl

module _ (old now : Machine) (goes : ObjId → Bool) (links : LinksAgree old) (follows : Follows old goes now) where
  who_left : (thread : ObjId) (tcb : Tcb) → IsThread old thread tcb → has_left follows.reach thread ≡ leaves old goes thread
  who_left thread tcb there = by_goes (goes thread) refl where
    by_goes :
        (b : Bool) → goes thread ≡ b → has_left follows.reach thread ≡ (b || is_released goes (object_of old thread))
    by_goes true e = ap (λ h. h || follows.reach.aborts thread) (follows.part.halts_it thread tcb there e)
    by_goes false e =
        ap (λ h. h || follows.reach.aborts thread) (follows.part.halts thread tcb there e)
        ∙ (ap (λ a. is_halted goes tcb.state || a) (follows.part.aborts thread tcb there e)
        ∙ (either_way (is_halted goes tcb.state) (is_aborted goes tcb.state)
        ∙ sym (ap (is_released goes) there)))

  same_tcb :
      (tcb : Tcb) (h a : Bool)
      → tcb_by h (not h && a) (leads_nowhere goes tcb.context) tcb ≡ unbound goes (cond h (halted tcb) (cond a (aborted tcb) tcb))
  same_tcb tcb true a = refl
  same_tcb tcb false true = refl
  same_tcb tcb false false = refl

  finalised_tcb :
      (id : ObjId) (tcb : Tcb) → IsThread old id tcb → goes id ≡ false
      → object_by follows.reach id (o.Tcb tcb) ≡ o.Tcb (tcb_after goes tcb)
  finalised_tcb id tcb there stays =
      (λ i.
      o.Tcb (tcb_by (follows.part.halts id tcb there stays i) (follows.part.aborts id tcb there stays i)
      (follows.part.unbinds id tcb there stays i) tcb))
      ∙ ap (λ (t : Tcb). o.Tcb t) (same_tcb tcb (is_halted goes tcb.state) (is_aborted goes tcb.state))

  finalised_reply :
      (id : ObjId) (address : ℕ) (run : ReplyState)
      → object_of old id ≡ Some (o.Reply (record { address = address; state = run }))
      → reply_by (has_left follows.reach) run ≡ reply_after old goes run
  finalised_reply id address (reply.Waiting thread) e =
      let w = links.waiting_reply id thread address e in
      ap (λ b. cond b reply.Free (reply.Waiting thread)) (who_left thread w.0 w.1)
  finalised_reply id address (reply.Called thread) e =
      let w = links.reply_called id thread address e in
      ap (λ b. cond b reply.Free (reply.Called thread)) (who_left thread w.0 w.1)
  finalised_reply id address reply.Free e = refl

  finalised_context :
      (id : ObjId) (context : Context) → object_of old id ≡ Some (o.Context context) → goes id ≡ false
      → link_after follows.reach.unbinds context.thread ≡ link_after goes context.thread
  finalised_context id context there stays = by_link context.thread refl where
    by_goes :
        (thread : ObjId) → context.thread ≡ Some thread → (b : Bool) → goes thread ≡ b → follows.reach.unbinds thread ≡ b
    by_goes thread bound b e = by_bool b e where
      w : (tcb : Tcb) × IsThread old thread tcb × (tcb.context ≡ Some id)
      w = links.context_thread id thread context there bound

      by_bool : (b : Bool) → goes thread ≡ b → follows.reach.unbinds thread ≡ b
      by_bool true e = follows.part.unbinds_it thread w.0 w.1 e
      by_bool false e = follows.part.unbinds thread w.0 w.1 e ∙ (ap (leads_nowhere goes) w.2 ∙ stays)

    by_link : (link : Option ObjId) → context.thread ≡ link → link_after follows.reach.unbinds link ≡ link_after goes link
    by_link None bound = refl
    by_link (Some thread) bound = ap (λ b. cond b None (Some thread)) (by_goes thread bound (goes thread) refl)

  objects_end : (id : ObjId) → goes id ≡ false → object_of now id ≡ option_map (finalised old goes) (object_of old id)
  objects_end id stays = follows.reached.objects id ∙ by_object (object_of old id) refl where
    by_object :
        (object : Option Object) → object_of old id ≡ object
        → option_map (object_by follows.reach id) object ≡ option_map (finalised old goes) object
    by_object None there = refl
    by_object (Some (o.Tcb tcb)) there = ap (λ x. Some x) (finalised_tcb id tcb there stays)
    by_object (Some (o.Reply holding)) there =
        ap (λ (s : ReplyState). Some (o.Reply (record holding { state = s })))
        (finalised_reply id holding.address holding.state (there ∙ refl))
    by_object (Some (o.Context context)) there =
        ap (λ (link : Option ObjId). Some (o.Context (record context { thread = link })))
        (finalised_context id context there stays)
    by_object (Some _) there = refl

  queues_end : (id : ObjId) → queue_of now id ≡ option_map (staying_in old goes) (queue_of old id)
  queues_end id = follows.reached.queues id ∙ by_queue (queue_of old id) refl where
    by_queue :
        (queue : Option (List ObjId)) → queue_of old id ≡ queue
        → option_map (queue_by follows.reach) queue ≡ option_map (staying_in old goes) queue
    by_queue None there = refl
    by_queue (Some threads) there =
        ap (λ x. Some x)
        (filter_same (λ t. not (has_left follows.reach t)) (λ t. not (leaves old goes t)) threads
        (All-weaker (Contains threads) (λ t. not (has_left follows.reach t) ≡ not (leaves old goes t))
        (λ t within. let w = links.queued id threads t there within in ap not (who_left t w.0 w.2)) threads
        (All-contains_itself threads)))

  slots_end : (id : ObjId) → option_map slot_count (object_of now id) ≡ option_map slot_count (object_of old id)
  slots_end id = ap (option_map slot_count) (follows.reached.objects id) ∙ by_object (object_of old id) where
    by_object :
        (object : Option Object)
        → option_map slot_count (option_map (object_by follows.reach id) object) ≡ option_map slot_count object
    by_object None = refl
    by_object (Some (o.Tcb tcb)) = refl
    by_object (Some (o.Reply holding)) = refl
    by_object (Some (o.Context context)) = refl
    by_object (Some _) = refl

  left_now : AreReleased old (leavers follows.reach) now
  left_now = reached_left old now follows.reach follows.reached

  -- nobody is left in the queue of an object that goes
  nobody_there :
      (id : ObjId) (threads : List ObjId) (thread : ObjId) → goes id ≡ true → queue_of now id ≡ Some threads → ¬ (Contains threads thread)
  nobody_there id threads thread gone e within =
      let was = member_was old now (leavers follows.reach) left_now id threads thread e within in
      let w = links.queued id was.0 thread was.1 was.2 in
      false≢true
      (sym was.3 ∙ (who_left thread w.0 w.2 ∙ by_goes w.0 w.2 (waits_aborted goes w.0.state id w.3 gone) (goes thread))) where
        by_halt : (h a : Bool) → a ≡ true → (h || a) ≡ true
        by_halt true a e = refl
        by_halt false a e = e

        by_goes :
            (tcb : Tcb) → IsThread old thread tcb → is_aborted goes tcb.state ≡ true → (b : Bool)
            → (b || is_released goes (object_of old thread)) ≡ true
        by_goes tcb there aborts true = refl
        by_goes tcb there aborts false =
            ap (is_released goes) there ∙ by_halt (is_halted goes tcb.state) (is_aborted goes tcb.state) aborts

  deserted_end : (id : ObjId) → goes id ≡ true → first_waiting now id ≡ None
  unfolding first_waiting
  deserted_end id gone = by_queue (queue_of now id) refl where
    by_queue : (queue : Option (List ObjId)) → queue_of now id ≡ queue → first_waiting now id ≡ None
    by_queue None e = rw e refl
    by_queue (Some []) e = rw e refl
    by_queue (Some (first ∷ others)) e = absurd (nobody_there id (first ∷ others) first gone e (first_in first others))

  waits_nowhere_end : (id : ObjId) → goes id ≡ true → WaitsNowhere now id
  waits_nowhere_end id gone at threads e within =
      let was = member_was old now (leavers follows.reach) left_now at threads id e within in
      let w = links.queued at was.0 id was.1 was.2 in
      false≢true (sym was.3 ∙ ap (λ h. h || follows.reach.aborts id) (follows.part.halts_it id w.0 w.2 gone))

  pub finalised_end : IsFinalised old goes now
  finalised_end =
      record {
        objects = objects_end;
        queues = λ id stays. queues_end id;
        slots = slots_end;
        deserted = deserted_end;
        waits_nowhere = waits_nowhere_end;
        rest = follows.reached.rest;
      }
