-- One more thread that is halted, aborted or unbound: the machine is then told by the threads so far with that one.
use Rattle.std.specs.Prelude.{None, Option, Some, option_map}
use Rattle.std.proofs.Common.{◌&&◌, ◌||◌, ◌∙◌, ◌≡◌, ◌≢◌, ◌⊎◌, Bool, List, ap, cond, false, inl, inr, not, refl, subst, sym, true}
use Rattle.{std.proofs.lemmas.{List.Elements.filter_agree, Option.{none-some, same_Some}}, base.specs.declared.ids.ObjId.ObjId}
use Rattle.machine.specs.declared.object.{Context.Context, Object.{Object, Object as o}, ReplyState.{ReplyState, ReplyState as reply}}
use Rattle.machine.specs.{declared.thread.Tcb.Tcb, Finalising.{aborted, halted, link_after}, Machine.{Machine, object_of, queue_of}}
use Rattle.machine.specs.{Machine.{same_id, with_object}, Releasing.{SameRest, reply_by, with_aborted, with_halted, with_released}}
use Rattle.machine.{specs.{Releasing.with_unbound, WellFormed.{IsThread, LinksAgree}}, proofs.{Filters.filter_twice, Ids.at_itself}}
use Rattle.machine.proofs.{Ids.{at_other, itself, one_or_two}, Leaving.{apart_ids, freed, rest-with_object, rest_along, rest_itself}}
use Rattle.machine.proofs.{Leaving.without, LookUps.{object_of-with_object, one_id, queue_of-with_object}, RemovalTable.one_thread}
use Rattle.{machine.proofs.RoundLemmas.or_second, steps.proofs.{ContextsFormed.unbound_is, Releases.{IsReleased, released_is}}}
use Rattle.removal.proofs.{Linked.{links_reached, tcb_now, thread_now}, Reached.{IsReached, Reach, and_aborted}}
use Rattle.removal.proofs.{Reached.{and_halted, and_unbound, has_left, object_by, queue_by, tcb_by}, Tests.or_false}

-- tests of who left

shift_first : (s h a : Bool) → ((s || h) || a) ≡ (s || (h || a))
shift_first true h a = refl
shift_first false h a = refl

shift_second : (s h a : Bool) → (h || (s || a)) ≡ (s || (h || a))
shift_second s true a = sym (or_second s true refl)
shift_second s false a = refl

neither_one : (s l : Bool) → (not l && not s) ≡ not (s || l)
neither_one true true = refl
neither_one true false = refl
neither_one false true = refl
neither_one false false = refl

-- one more thread has left
module _ (reach next : Reach) (thread : ObjId) (more : (id : ObjId) → has_left next id ≡ (same_id id thread || has_left reach id)) where
  freed_twice :
      (run : ReplyState) (s b : Bool) → reply_by (λ other. same_id other thread) run ≡ cond s reply.Free run
      → reply_by (λ other. same_id other thread) (cond b reply.Free run) ≡ cond (s || b) reply.Free run
  freed_twice run s true alone = sym (ap (λ b. cond b reply.Free run) (or_second s true refl))
  freed_twice run s false alone = alone ∙ sym (ap (λ b. cond b reply.Free run) (or_false s))

  reply_twice :
      (run : ReplyState) → reply_by (λ other. same_id other thread) (reply_by (has_left reach) run) ≡ reply_by (has_left next) run
  reply_twice (reply.Waiting held) =
      freed_twice (reply.Waiting held) (same_id held thread) (has_left reach held) refl
      ∙ sym (ap (λ b. cond b reply.Free (reply.Waiting held)) (more held))
  reply_twice (reply.Called held) =
      freed_twice (reply.Called held) (same_id held thread) (has_left reach held) refl
      ∙ sym (ap (λ b. cond b reply.Free (reply.Called held)) (more held))
  reply_twice reply.Free = refl

  queues_twice :
      (queue : Option (List ObjId)) → option_map (without thread) (option_map (queue_by reach) queue) ≡ option_map (queue_by next) queue
  queues_twice None = refl
  queues_twice (Some threads) =
      ap (λ x. Some x)
      (filter_twice (λ other. not (same_id other thread)) (λ other. not (has_left reach other)) threads
      ∙ filter_agree (λ other. not (has_left reach other) && not (same_id other thread)) (λ other. not (has_left next other))
      (λ other. neither_one (same_id other thread) (has_left reach other) ∙ sym (ap not (more other))) threads)

  module _ (q : ObjId) (halts : next.halts q ≡ reach.halts q) (aborts : next.aborts q ≡ reach.aborts q)
      (unbinds : next.unbinds ≡ reach.unbinds) where
    object_twice : (object : Option Object) → option_map (freed thread) (option_map (object_by reach q) object) ≡ option_map (object_by next q) object
    object_twice None = refl
    object_twice (Some (o.Tcb tcb)) = λ i. Some (o.Tcb (tcb_by (sym halts i) (sym aborts i) (sym unbinds i q) tcb))
    object_twice (Some (o.Reply holding)) =
        ap (λ (s : ReplyState). Some (o.Reply (record holding { state = s }))) (reply_twice holding.state)
    object_twice (Some (o.Context context)) =
        ap (λ (u : ObjId → Bool). Some (o.Context (record context { thread = link_after u context.thread }))) (sym unbinds)
    object_twice (Some _) = refl

-- a thread is halted, or aborted

module _ (old now : Machine) (reach : Reach) (reached : IsReached old reach now) (links : LinksAgree old) (thread : ObjId) (tcb : Tcb)
    (there : IsThread old thread tcb) where
  abbrev is : Tcb
  is = tcb_now old now reach reached thread tcb

  module _ (change : Tcb → Tcb) (next : Reach)
      (more : (id : ObjId) → has_left next id ≡ (same_id id thread || has_left reach id))
      (itself_new : change is ≡ tcb_by (next.halts thread) (next.aborts thread) (next.unbinds thread) tcb)
      (halts : (q : ObjId) → same_id q thread ≡ false → next.halts q ≡ reach.halts q)
      (aborts : (q : ObjId) → same_id q thread ≡ false → next.aborts q ≡ reach.aborts q)
      (unbinds : next.unbinds ≡ reach.unbinds) where
    left : IsReleased now thread (change is) (with_released now thread change)
    left =
        released_is now thread is change (links_reached old now reach reached links) (thread_now old now reach reached thread tcb there)

    released : IsReached old next (with_released now thread change)
    released =
        record {
          objects = λ q. left.objects q ∙ by_tie q (same_id q thread) refl;
          queues =
              λ q.
              left.queues q
              ∙ ap (option_map (without thread)) (reached.queues q)
              ∙ queues_twice reach next thread more (queue_of old q);
          rest = rest_along old now (with_released now thread change) reached.rest left.rest;
        } where
          by_tie :
              (q : ObjId) (tie : Bool) → same_id q thread ≡ tie
              → cond tie (Some (o.Tcb (change is))) (option_map (freed thread) (object_of now q))
              ≡ option_map (object_by next q) (object_of old q)
          by_tie q true e =
              subst (λ (x : ObjId). Some (o.Tcb (change is)) ≡ option_map (object_by next x) (object_of old x)) (sym (one_id q thread e))
              (ap (λ (t : Tcb). Some (o.Tcb t)) itself_new ∙ ap (option_map (object_by next thread)) (sym there))
          by_tie q false e =
              ap (option_map (freed thread)) (reached.objects q)
              ∙ object_twice reach next thread more q (halts q e) (aborts q e) unbinds (object_of old q)

  pub halted_step : IsReached old (and_halted reach thread) (with_halted now thread)
  halted_step =
      released halted (and_halted reach thread)
      (λ id. shift_first (same_id id thread) (reach.halts id) (reach.aborts id))
      (ap (λ b. tcb_by (b || reach.halts thread) (reach.aborts thread) (reach.unbinds thread) tcb) (sym (itself thread)))
      (λ q e. ap (λ b. b || reach.halts q) e)
      (λ q e. refl)
      refl

  pub aborted_step : reach.halts thread ≡ false → IsReached old (and_aborted reach thread) (with_aborted now thread)
  aborted_step running =
      released aborted (and_aborted reach thread)
      (λ id. shift_second (same_id id thread) (reach.halts id) (reach.aborts id))
      (λ i. tcb_by (sym running i) (sym (itself thread) i || reach.aborts thread) (reach.unbinds thread) tcb)
      (λ q e. refl)
      (λ q e. ap (λ b. b || reach.aborts q) e)
      refl

-- a thread is unbound

-- an object without its link to a thread, or a thread's to its context
abbrev cut : ObjId → ObjId → Object → Object
cut thread q (o.Tcb tcb) = o.Tcb (record tcb { context = cond (same_id q thread) None tcb.context })
cut thread q (o.Context context) = o.Context (record context { thread = link_after (λ id. same_id id thread) context.thread })
cut thread q object = object

cut_twice :
    (reach : Reach) (thread q : ObjId) (object : Option Object)
    → option_map (cut thread q) (option_map (object_by reach q) object) ≡ option_map (object_by (and_unbound reach thread) q) object
cut_twice reach thread q None = refl
cut_twice reach thread q (Some (o.Tcb tcb)) =
    ap (λ (link : Option ObjId). Some (o.Tcb (record (tcb_by (reach.halts q) (reach.aborts q) false tcb) { context = link })))
    (by_test (same_id q thread)) where
      by_test : (b : Bool) → cond b None (cond (reach.unbinds q) None tcb.context) ≡ cond (b || reach.unbinds q) None tcb.context
      by_test true = refl
      by_test false = refl
cut_twice reach thread q (Some (o.Context context)) =
    ap (λ (link : Option ObjId). Some (o.Context (record context { thread = link }))) (by_link context.thread) where
      by_tests :
          (id : ObjId) (s u : Bool) → same_id id thread ≡ s
          → link_after (λ other. same_id other thread) (cond u None (Some id)) ≡ cond (s || u) None (Some id)
      by_tests id true true e = refl
      by_tests id false true e = refl
      by_tests id true false e = ap (λ b. cond b None (Some id)) e
      by_tests id false false e = ap (λ b. cond b None (Some id)) e

      by_link :
          (link : Option ObjId)
          → link_after (λ other. same_id other thread) (link_after reach.unbinds link) ≡ link_after (and_unbound reach thread).unbinds link
      by_link None = refl
      by_link (Some id) = by_tests id (same_id id thread) (reach.unbinds id) refl
cut_twice reach thread q (Some (o.Reply holding)) = refl
cut_twice reach thread q (Some _) = refl

record IsUnbound (m : Machine) (thread : ObjId) (next : Machine) : Type 0 where
  objects : (q : ObjId) → object_of next q ≡ option_map (cut thread q) (object_of m q)
  queues : (q : ObjId) → queue_of next q ≡ queue_of m q
  rest : SameRest m next

module _ (m : Machine) (links : LinksAgree m) (thread : ObjId) (tcb : Tcb) (there : IsThread m thread tcb) where
  -- what isn't linked to the thread is as it was
  elsewhere :
      (q : ObjId) → q ≢ thread ⊎ (tcb.context ≡ None)
      → ((context : Context) → object_of m q ≡ Some (o.Context context) → context.thread ≢ Some thread)
      → object_of m q ≡ option_map (cut thread q) (object_of m q)
  elsewhere q apart differs = by_object (object_of m q) refl where
    by_tie :
        (other : Tcb) → IsThread m q other → (tie : Bool) → same_id q thread ≡ tie → q ≢ thread ⊎ (tcb.context ≡ None)
        → other.context ≡ cond tie None other.context
    by_tie other e false tie away = refl
    by_tie other e true tie (inl away) = absurd (away (one_id q thread tie))
    by_tie other e true tie (inr none) =
        ap (λ (t : Tcb). t.context) (one_thread m thread other tcb (ap (object_of m) (sym (one_id q thread tie)) ∙ e) there) ∙ none

    by_link : (link : Option ObjId) → link ≢ Some thread → link ≡ link_after (λ id. same_id id thread) link
    by_link None away = refl
    by_link (Some id) away = ap (λ b. cond b None (Some id)) (sym (apart_ids id thread (λ same. away (ap (λ x. Some x) same))))

    by_object : (object : Option Object) → object_of m q ≡ object → object ≡ option_map (cut thread q) object
    by_object None e = refl
    by_object (Some (o.Tcb other)) e =
        ap (λ (link : Option ObjId). Some (o.Tcb (record other { context = link }))) (by_tie other e (same_id q thread) refl apart)
    by_object (Some (o.Context context)) e =
        ap (λ (link : Option ObjId). Some (o.Context (record context { thread = link }))) (by_link context.thread (differs context e))
    by_object (Some _) e = refl

  none_unbound : tcb.context ≡ None → IsUnbound m thread m
  none_unbound none =
      record {
        objects =
            λ q.
            elsewhere q (inr none)
            (λ context at bound.
            let w = links.context_thread q thread context at bound in
            none-some q (sym none ∙ ap (λ (t : Tcb). t.context) (one_thread m thread tcb w.0 there w.1) ∙ w.2));
        queues = λ q. refl;
        rest = rest_itself m;
      }

  module _ (id : ObjId) (context : Context) (some : tcb.context ≡ Some id) (at : object_of m id ≡ Some (o.Context context))
      (holds : context.thread ≡ Some thread) where
    abbrev mid : Machine
    mid = with_object m thread (o.Tcb (record tcb { context = None }))

    abbrev next : Machine
    next = with_object mid id (o.Context (record context { thread = None }))

    objects_next : (q : ObjId) → object_of next q ≡ option_map (cut thread q) (object_of m q)
    objects_next q =
        object_of-with_object mid id (o.Context (record context { thread = None })) q ∙ by_context (one_or_two q id) where
          by_thread : q ≢ id → (q ≡ thread) ⊎ (q ≢ thread) → object_of mid q ≡ option_map (cut thread q) (object_of m q)
          by_thread other (inl same) =
              subst (λ (x : ObjId). object_of mid x ≡ option_map (cut thread x) (object_of m x)) (sym same)
              (object_of-with_object m thread (o.Tcb (record tcb { context = None })) thread
              ∙ at_itself thread (Some (o.Tcb (record tcb { context = None }))) (object_of m thread)
              ∙ ap (λ b. Some (o.Tcb (record tcb { context = cond b None tcb.context }))) (sym (itself thread))
              ∙ ap (option_map (cut thread thread)) (sym there))
          by_thread other (inr apart) =
              object_of-with_object m thread (o.Tcb (record tcb { context = None })) q
              ∙ at_other q thread (Some (o.Tcb (record tcb { context = None }))) (object_of m q) apart
              ∙ elsewhere q (inl apart)
              (λ also is bound.
              let w = links.context_thread q thread also is bound in
              let e : Some q ≡ Some id = sym w.2 ∙ (ap (λ (t : Tcb). t.context) (one_thread m thread w.0 tcb w.1 there) ∙ some) in
              other (same_Some q id e))

          by_context :
              (q ≡ id) ⊎ (q ≢ id)
              → cond (same_id q id) (Some (o.Context (record context { thread = None }))) (object_of mid q)
              ≡ option_map (cut thread q) (object_of m q)
          by_context (inl same) =
              subst
              (λ (x : ObjId).
              cond (same_id x id) (Some (o.Context (record context { thread = None }))) (object_of mid x)
              ≡ option_map (cut thread x) (object_of m x)) (sym same)
              (at_itself id (Some (o.Context (record context { thread = None }))) (object_of mid id)
              ∙ ap (λ (link : Option ObjId). Some (o.Context (record context { thread = link })))
              (sym (ap (link_after (λ other. same_id other thread)) holds ∙ ap (λ b. cond b None (Some thread)) (itself thread)))
              ∙ ap (option_map (cut thread id)) (sym at))
          by_context (inr apart) =
              at_other q id (Some (o.Context (record context { thread = None }))) (object_of mid q) apart
              ∙ by_thread apart (one_or_two q thread)

    some_unbound : IsUnbound m thread next
    some_unbound =
        record {
          objects = objects_next;
          queues =
              λ q.
              queue_of-with_object mid id (o.Context (record context { thread = None })) q
              ∙ queue_of-with_object m thread (o.Tcb (record tcb { context = None })) q;
          rest =
              rest_along m mid next (rest-with_object m thread (o.Tcb (record tcb { context = None })))
              (rest-with_object mid id (o.Context (record context { thread = None })));
        }

  unbound : IsUnbound m thread (with_unbound m thread)
  unfolding with_unbound
  unbound = by_link tcb.context refl where
    by_link : (link : Option ObjId) → tcb.context ≡ link → IsUnbound m thread (with_unbound m thread)
    by_link None e = rw (there, e) (none_unbound e)
    by_link (Some id) e =
        let w = links.thread_context thread id tcb there e in
        subst (λ (n : Machine). IsUnbound m thread n) (sym (unbound_is m id thread w.0 tcb w.1 there e)) (some_unbound id w.0 e w.1 w.2)

pub unbound_step :
    (old now : Machine) (reach : Reach) → IsReached old reach now → LinksAgree old → (thread : ObjId) (tcb : Tcb)
    → IsThread old thread tcb → IsReached old (and_unbound reach thread) (with_unbound now thread)
unbound_step old now reach reached links thread tcb there =
    let after =
    unbound now (links_reached old now reach reached links) thread (tcb_now old now reach reached thread tcb)
    (thread_now old now reach reached thread tcb there) in
    record {
      objects =
          λ q. after.objects q ∙ ap (option_map (cut thread q)) (reached.objects q) ∙ cut_twice reach thread q (object_of old q);
      queues = λ q. after.queues q ∙ reached.queues q;
      rest = rest_along old now (with_unbound now thread) reached.rest after.rest;
    }
