-- That queues, replies and contexts stay linked at both ends when an idle thread begins to wait at an object, or for an answer.
use Rattle.std.{specs.Prelude.{AllPairs, Contains, Some}, proofs.Common.{[], ℕ, ◌++◌, ◌∙◌, ◌∷◌, ◌≡◌, ◌≢◌, ◌⊎◌, List, ap, get_or, inl, inr}}
use Rattle.std.proofs.{Common.{refl, subst, sym}, lemmas.List.Elements.{Contains-append_left, Contains-get_or, Contains-push}}
use Rattle.std.proofs.lemmas.{List.{Elements.Contains-push_cases, Quantifiers.all_pairs_push}, Option.same_Some}
use Rattle.base.specs.declared.ids.ObjId.{ObjId}
use Rattle.machine.specs.declared.object.{Context.Context, Object.{Object, Object as o}, ObjectKind.ObjectKind, Reply.Reply}
use Rattle.machine.specs.{declared.{object.ReplyState.ReplyState, thread.{RunState.RunState, Tcb.Tcb}}, Finalising.IsHolding}
use Rattle.machine.specs.{Machine.{Machine, object_of, queue_of}, WellFormed.{IsAlike, IsCallingThrough, IsIdle, IsReceivingWith}}
use Rattle.machine.{specs.WellFormed.{IsSending, IsThread, LinksAgree, WaitsAt, WaitsAtKind, kind_of}, proofs.Idle.idle_held_by_none}
use Rattle.machine.proofs.{Idle.idle_in_none, Ids.one_or_two, Leaving.Names, RemovalTable.one_thread}
use Rattle.machine.specs.declared.object.ObjectKind.TheVariants as kind
use Rattle.machine.specs.declared.object.ReplyState.TheVariants as reply
use Rattle.machine.specs.declared.thread.RunState.TheVariants as state
use Rattle.steps.proofs.{Joins.{IsJoined, hold_for, names_or_not, waits_or_not}, Outlines.{Steady, same_kinds}}

-- a run state fits the kind of the object where it waits, and the others who wait there
pub record FitsIn (m : Machine) (run : RunState) : Type 0 where
  pub kind :
      (q : ObjId) → WaitsAt run q → (at : ObjectKind) × (kind_of m q ≡ Some at) × WaitsAtKind run at
  pub alike : (q : ObjId) → WaitsAt run q → IsAlike m q run

module _ (m next : Machine) (thread : ObjId) (old new : Tcb) (links : LinksAgree m) (was : IsThread m thread old)
    (runs : new.context ≡ old.context) (idle : IsIdle old.state) (joined : IsJoined m thread new next) (steady : Steady m next)
    (fits : FitsIn m new.state) where
  is_new : (q : ObjId) (tcb : Tcb) → q ≡ thread → IsThread next q tcb → tcb ≡ new
  is_new q tcb here e = one_thread next thread tcb new (ap (object_of next) (sym here) ∙ e) joined.there

  is_old : (q : ObjId) (tcb : Tcb) → q ≡ thread → IsThread m q tcb → tcb ≡ old
  is_old q tcb here e = one_thread m thread tcb old (ap (object_of m) (sym here) ∙ e) was

  -- other objects that aren't free replies are as they were
  object_now :
      (q : ObjId) (object : Object) → q ≢ thread → ((address : ℕ) → object ≢ o.Reply (record { address = address; state = reply.Free }))
      → object_of m q ≡ Some object → object_of next q ≡ Some object
  object_now q object apart held e = by_name (names_or_not new.state q) where
    by_name : Names new.state q ⊎ ¬ (Names new.state q) → object_of next q ≡ Some object
    by_name (inl names) =
        let w = joined.named q names in
        absurd (held w.0 (same_Some object (o.Reply (record { address = w.0; state = reply.Free })) (sym e ∙ w.1)))
    by_name (inr none) = joined.others q apart none ∙ e

  -- an object was so, or is the reply that the thread names
  object_was :
      (q : ObjId) (object : Object) → q ≢ thread → object_of next q ≡ Some object
      → (object_of m q ≡ Some object)
      ⊎ ((address : ℕ) × Names new.state q × (object ≡ o.Reply (record { address = address; state = hold_for new.state thread })))
  object_was q object apart e = by_name (names_or_not new.state q) where
    by_name :
        Names new.state q ⊎ ¬ (Names new.state q)
        → (object_of m q ≡ Some object)
        ⊎ ((address : ℕ) × Names new.state q × (object ≡ o.Reply (record { address = address; state = hold_for new.state thread })))
    by_name (inl names) =
        let w = joined.named q names in
        inr (w.0, names, same_Some object (o.Reply (record { address = w.0; state = hold_for new.state thread })) (sym e ∙ w.2))
    by_name (inr none) = inl (sym (joined.others q apart none) ∙ e)

  same_was :
      (q : ObjId) (object : Object) → q ≢ thread → ((holding : Reply) → object ≢ o.Reply holding) → object_of next q ≡ Some object
      → object_of m q ≡ Some object
  same_was q object apart differs e = by_case (object_was q object apart e) where
    by_case :
        (object_of m q ≡ Some object)
        ⊎ ((address : ℕ) × Names new.state q × (object ≡ o.Reply (record { address = address; state = hold_for new.state thread })))
        → object_of m q ≡ Some object
    by_case (inl was) = was
    by_case (inr is) = absurd (differs _ is.2)

  thread_now : (q : ObjId) (tcb : Tcb) → q ≢ thread → IsThread m q tcb → IsThread next q tcb
  thread_now q tcb apart e = object_now q (o.Tcb tcb) apart (λ address same. cc) e

  thread_was : (q : ObjId) (tcb : Tcb) → q ≢ thread → IsThread next q tcb → IsThread m q tcb
  thread_was q tcb apart e = same_was q (o.Tcb tcb) apart (λ holding same. cc) e

  context_now :
      (id : ObjId) (context : Context) → object_of m id ≡ Some (o.Context context) → object_of next id ≡ Some (o.Context context)
  context_now id context e =
      object_now id (o.Context context)
      (λ here. let one : Some (o.Tcb old) ≡ Some (o.Context context) = sym was ∙ ap (object_of m) (sym here) ∙ e in cc)
      (λ address same. cc) e

  context_was :
      (id : ObjId) (context : Context) → object_of next id ≡ Some (o.Context context) → object_of m id ≡ Some (o.Context context)
  context_was id context e =
      same_was id (o.Context context)
      (λ here.
      let one : Some (o.Tcb new) ≡ Some (o.Context context) = sym joined.there ∙ ap (object_of next) (sym here) ∙ e in cc)
      (λ holding same. cc) e

  -- a thread in a queue was in it, or is the one that now waits there
  member_was :
      (q : ObjId) (threads : List ObjId) (other : ObjId) → queue_of next q ≡ Some threads → Contains threads other
      → ((all : List ObjId) × (queue_of m q ≡ Some all) × Contains all other × (other ≢ thread))
      ⊎ ((other ≡ thread) × WaitsAt new.state q)
  member_was q threads other e within = by_case (waits_or_not new.state q) where
    by_part :
        (all : List ObjId) → queue_of m q ≡ Some all → WaitsAt new.state q → Contains all other ⊎ (thread ≡ other)
        → ((all : List ObjId) × (queue_of m q ≡ Some all) × Contains all other × (other ≢ thread))
        ⊎ ((other ≡ thread) × WaitsAt new.state q)
    by_part all at waits (inl inside) = inl (all, at, inside, idle_in_none m links thread old was idle q all other at inside)
    by_part all at waits (inr same) = inr (sym same, waits)

    by_case :
        WaitsAt new.state q ⊎ ¬ (WaitsAt new.state q)
        → ((all : List ObjId) × (queue_of m q ≡ Some all) × Contains all other × (other ≢ thread))
        ⊎ ((other ≡ thread) × WaitsAt new.state q)
    by_case (inl waits) =
        let w = joined.queues.joins q waits in
        let whole : threads ≡ w.0 ++ thread ∷ [] = same_Some threads (w.0 ++ thread ∷ []) (sym e ∙ w.2) in
        by_part w.0 w.1 waits
        (Contains-push_cases w.0 thread other (subst (λ (ts : List ObjId). Contains ts other) whole within))
    by_case (inr none) =
        let at : queue_of m q ≡ Some threads = sym (joined.queues.elsewhere q none) ∙ e in
        inl (threads, at, within, idle_in_none m links thread old was idle q threads other at within)

  -- who was in a queue still is
  member_now :
      (q : ObjId) (all : List ObjId) (other : ObjId) → queue_of m q ≡ Some all → Contains all other
      → (threads : List ObjId) × (queue_of next q ≡ Some threads) × Contains threads other
  member_now q all other e within = by_case (waits_or_not new.state q) where
    by_case :
        WaitsAt new.state q ⊎ ¬ (WaitsAt new.state q)
        → (threads : List ObjId) × (queue_of next q ≡ Some threads) × Contains threads other
    by_case (inl waits) =
        let w = joined.queues.joins q waits in
        let whole : all ≡ w.0 = same_Some all w.0 (sym e ∙ w.1) in (
          w.0 ++ thread ∷ [],
          w.2,
          Contains-append_left w.0 (thread ∷ []) other (subst (λ (ts : List ObjId). Contains ts other) whole within),
        )
    by_case (inr none) = (all, joined.queues.elsewhere q none ∙ e, within)

  queued_now :
      (q : ObjId) (threads : List ObjId) (other : ObjId) → queue_of next q ≡ Some threads → Contains threads other
      → (tcb : Tcb) × (at : ObjectKind) × IsThread next other tcb × WaitsAt tcb.state q × (kind_of next q ≡ Some at)
      × WaitsAtKind tcb.state at
  queued_now q threads other e within = by_case (member_was q threads other e within) where
    by_case :
        ((all : List ObjId) × (queue_of m q ≡ Some all) × Contains all other × (other ≢ thread))
        ⊎ ((other ≡ thread) × WaitsAt new.state q)
        → (tcb : Tcb) × (at : ObjectKind) × IsThread next other tcb × WaitsAt tcb.state q × (kind_of next q ≡ Some at)
        × WaitsAtKind tcb.state at
    by_case (inl stays) =
        let w = links.queued q stays.0 other stays.1 stays.2 in
        (w.0, w.1, thread_now other w.0 stays.3 w.2, w.3, same_kinds m next steady q ∙ w.4, w.5)
    by_case (inr here) =
        let w = fits.kind q here.1 in
        (new, w.0, ap (object_of next) here.0 ∙ joined.there, here.1, same_kinds m next steady q ∙ w.1, w.2)

  waiting_now :
      (other q : ObjId) (tcb : Tcb) → IsThread next other tcb → WaitsAt tcb.state q → (other ≡ thread) ⊎ (other ≢ thread)
      → (threads : List ObjId) × (queue_of next q ≡ Some threads) × Contains threads other
  waiting_now other q tcb e waits (inl here) =
      let w = joined.queues.joins q (subst (λ (t : Tcb). WaitsAt t.state q) (is_new other tcb here e) waits) in (
        w.0 ++ thread ∷ [],
        w.2,
        subst (λ (t : ObjId). Contains (w.0 ++ thread ∷ []) t) (sym here) (Contains-push w.0 thread),
      )
  waiting_now other q tcb e waits (inr apart) =
      let w = links.waiting other q tcb (thread_was other tcb apart e) waits in member_now q w.0 other w.1 w.2

  once_now : (q : ObjId) (threads : List ObjId) → queue_of next q ≡ Some threads → AllPairs (λ a b. a ≢ b) threads
  once_now q threads e = by_case (waits_or_not new.state q) where
    by_case : WaitsAt new.state q ⊎ ¬ (WaitsAt new.state q) → AllPairs (λ a b. a ≢ b) threads
    by_case (inl waits) =
        let w = joined.queues.joins q waits in
        let whole : w.0 ++ thread ∷ [] ≡ threads = same_Some (w.0 ++ thread ∷ []) threads (sym w.2 ∙ e) in
        subst (AllPairs (λ a b. a ≢ b)) whole
        (all_pairs_push (λ a b. a ≢ b) w.0 thread (links.once q w.0 w.1)
        (λ k d less. idle_in_none m links thread old was idle q w.0 (get_or w.0 k d) w.1 (Contains-get_or w.0 k d less)))
    by_case (inr none) = links.once q threads (sym (joined.queues.elsewhere q none) ∙ e)

  -- all threads in an endpoint's queue send if one does
  one_way_now :
      (q a b : ObjId) (threads : List ObjId) (one two : Tcb) → queue_of next q ≡ Some threads → Contains threads a
      → Contains threads b → IsThread next a one → IsThread next b two → IsSending one.state
      → kind_of next q ≡ Some kind.Endpoint → IsSending two.state
  one_way_now q a b threads one two e in_a in_b is_a is_b sends at =
      by_case (member_was q threads a e in_a) (member_was q threads b e in_b) where
        by_case :
            ((all : List ObjId) × (queue_of m q ≡ Some all) × Contains all a × (a ≢ thread))
            ⊎ ((a ≡ thread) × WaitsAt new.state q)
            → ((all : List ObjId) × (queue_of m q ≡ Some all) × Contains all b × (b ≢ thread))
            ⊎ ((b ≡ thread) × WaitsAt new.state q)
            → IsSending two.state
        by_case (inl w) (inl v) =
            let whole : v.0 ≡ w.0 = same_Some v.0 w.0 (sym v.1 ∙ w.1) in
            links.one_way q a b w.0 one two w.1 w.2 (subst (λ (ts : List ObjId). Contains ts b) whole v.2)
            (thread_was a one w.3 is_a) (thread_was b two v.3 is_b) sends (sym (same_kinds m next steady q) ∙ at)
        by_case (inl w) (inr here) =
            let does : IsSending new.state = (fits.alike q here.1 w.0 a one w.1 w.2 (thread_was a one w.3 is_a)).0 sends in
            subst (λ (t : Tcb). IsSending t.state) (sym (is_new b two here.0 is_b)) does
        by_case (inr here) (inl v) =
            (fits.alike q here.1 v.0 b two v.1 v.2 (thread_was b two v.3 is_b)).1
            (subst (λ (t : Tcb). IsSending t.state) (is_new a one here.0 is_a) sends)
        by_case (inr here) (inr also) =
            subst (λ (t : Tcb). IsSending t.state) (is_new a one here.0 is_a ∙ sym (is_new b two also.0 is_b)) sends

  -- the reply that a run state names holds the thread

  receiving_held :
      (run : RunState) (id : ObjId) → IsReceivingWith run id → Names run id × (hold_for run thread ≡ reply.Waiting thread)
  receiving_held (state.Receiving receiving) id e = (e, refl)
  receiving_held _ id e = absurd e

  called_held :
      (run : RunState) (id : ObjId) → IsCallingThrough run id → Names run id × (hold_for run thread ≡ reply.Called thread)
  called_held (state.Called calling) id e = (e, refl)
  called_held _ id e = absurd e

  held_receiving :
      (run : RunState) (id other : ObjId) → Names run id → reply.Waiting other ≡ hold_for run thread
      → IsReceivingWith run id × (other ≡ thread)
  held_receiving (state.Receiving receiving) id other names e = (names, cc)
  held_receiving (state.Called calling) id other names e = cc
  held_receiving _ id other names e = absurd names

  held_called :
      (run : RunState) (id other : ObjId) → Names run id → reply.Called other ≡ hold_for run thread
      → IsCallingThrough run id × (other ≡ thread)
  held_called (state.Receiving receiving) id other names e = cc
  held_called (state.Called calling) id other names e = (names, cc)
  held_called _ id other names e = absurd names

  -- run states and replies stay linked if they were for other threads and are for this one
  module _ (Is : RunState → ObjId → Type 0) (hold : ObjId → ReplyState) (holds : (other : ObjId) → IsHolding (hold other) other)
      (own : (run : RunState) (id : ObjId) → Is run id → Names run id × (hold_for run thread ≡ hold thread))
      (back : (run : RunState) (id other : ObjId) → Names run id → hold other ≡ hold_for run thread → Is run id × (other ≡ thread)) where
    named_now :
        ((other q : ObjId) (tcb : Tcb) → IsThread m other tcb → Is tcb.state q
        → (address : ℕ) × (object_of m q ≡ Some (o.Reply (record { address = address; state = hold other }))))
        → (other q : ObjId) (tcb : Tcb) → IsThread next other tcb → Is tcb.state q
        → (address : ℕ) × (object_of next q ≡ Some (o.Reply (record { address = address; state = hold other })))
    named_now before other q tcb e names = by_id (one_or_two other thread) where
      by_id :
          (other ≡ thread) ⊎ (other ≢ thread)
          → (address : ℕ) × (object_of next q ≡ Some (o.Reply (record { address = address; state = hold other })))
      by_id (inl here) =
          let is = own new.state q (subst (λ (t : Tcb). Is t.state q) (is_new other tcb here e) names) in
          let w = joined.named q is.0 in (
            w.0,
            w.2 ∙ ap (λ (s : ReplyState). Some (o.Reply (record { address = w.0; state = s }))) (is.1 ∙ ap hold (sym here)),
          )
      by_id (inr apart) =
          let w = before other q tcb (thread_was other tcb apart e) names in (
            w.0,
            object_now q (o.Reply (record { address = w.0; state = hold other }))
                (λ here.
                let one : Some (o.Tcb old) ≡ Some (o.Reply (record { address = w.0; state = hold other })) =
                sym was ∙ ap (object_of m) (sym here) ∙ w.1 in
                cc)
                (λ address same.
                let free :
                ◌≡◌ {A = Reply} (record { address = w.0; state = hold other }) (record { address = address; state = reply.Free }) = cc in
                subst (λ (r : Reply). IsHolding r.state other) free (holds other))
                w.1,
          )

    held_now :
        ((q other : ObjId) (address : ℕ) → object_of m q ≡ Some (o.Reply (record { address = address; state = hold other }))
        → (tcb : Tcb) × IsThread m other tcb × Is tcb.state q)
        → (q other : ObjId) (address : ℕ) → object_of next q ≡ Some (o.Reply (record { address = address; state = hold other }))
        → (tcb : Tcb) × IsThread next other tcb × Is tcb.state q
    held_now before q other address e =
        by_case
        (object_was q (o.Reply (record { address = address; state = hold other }))
        (λ here.
        let one : Some (o.Tcb new) ≡ Some (o.Reply (record { address = address; state = hold other })) =
        sym joined.there ∙ ap (object_of next) (sym here) ∙ e in
        cc) e) where
          by_case :
              (object_of m q ≡ Some (o.Reply (record { address = address; state = hold other })))
              ⊎ ((at : ℕ) × Names new.state q
              × (o.Reply (record { address = address; state = hold other })
              ≡ o.Reply (record { address = at; state = hold_for new.state thread })))
              → (tcb : Tcb) × IsThread next other tcb × Is tcb.state q
          by_case (inl at) =
              let w = before q other address at in
              let apart =
              idle_held_by_none m links thread old was idle q (record { address = address; state = hold other }) other at
              (holds other) in
              (w.0, thread_now other w.0 apart w.1, w.2)
          by_case (inr is) =
              let one :
              ◌≡◌ {A = Reply} (record { address = address; state = hold other })
              (record { address = is.0; state = hold_for new.state thread }) = let same = is.2 in cc in
              let w = back new.state q other is.1 (ap (λ (r : Reply). r.state) one) in (new, ap (object_of next) w.1 ∙ joined.there, w.0)

  thread_context_now :
      (q id : ObjId) (tcb : Tcb) → IsThread next q tcb → tcb.context ≡ Some id → (q ≡ thread) ⊎ (q ≢ thread)
      → (context : Context) × (object_of next id ≡ Some (o.Context context)) × (context.thread ≡ Some q)
  thread_context_now q id tcb e bound (inl here) =
      let w =
      links.thread_context thread id old was (sym runs ∙ ap (λ (t : Tcb). t.context) (sym (is_new q tcb here e)) ∙ bound) in
      (w.0, context_now id w.0 w.1, w.2 ∙ ap (λ x. Some x) (sym here))
  thread_context_now q id tcb e bound (inr apart) =
      let w = links.thread_context q id tcb (thread_was q tcb apart e) bound in (w.0, context_now id w.0 w.1, w.2)

  context_thread_now :
      (id q : ObjId) (tcb : Tcb) → IsThread m q tcb → tcb.context ≡ Some id → (q ≡ thread) ⊎ (q ≢ thread)
      → (now : Tcb) × IsThread next q now × (now.context ≡ Some id)
  context_thread_now id q tcb e bound (inl here) =
      (new, ap (object_of next) here ∙ joined.there, runs ∙ ap (λ (t : Tcb). t.context) (sym (is_old q tcb here e)) ∙ bound)
  context_thread_now id q tcb e bound (inr apart) = (tcb, thread_now q tcb apart e, bound)

  pub links_joined : LinksAgree next
  links_joined =
      record {
        queued = queued_now;
        waiting = λ other q tcb e waits. waiting_now other q tcb e waits (one_or_two other thread);
        once = once_now;
        one_way = one_way_now;
        receiver_reply =
            named_now IsReceivingWith (λ other. reply.Waiting other) (λ other. refl) receiving_held held_receiving links.receiver_reply;
        called_reply = named_now IsCallingThrough (λ other. reply.Called other) (λ other. refl) called_held held_called links.called_reply;
        waiting_reply =
            held_now IsReceivingWith (λ other. reply.Waiting other) (λ other. refl) receiving_held held_receiving links.waiting_reply;
        reply_called = held_now IsCallingThrough (λ other. reply.Called other) (λ other. refl) called_held held_called links.reply_called;
        thread_context = λ other q tcb e bound. thread_context_now other q tcb e bound (one_or_two other thread);
        context_thread =
            λ q other context e bound.
            let w = links.context_thread q other context (context_was q context e) bound in
            context_thread_now q other w.0 w.1 w.2 (one_or_two other thread);
      }
