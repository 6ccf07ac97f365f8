-- One more object that has lost its links, kind by kind: the threads that are reached are those of the set with it.
use Rattle.std.proofs.Common.{◌&&◌, ◌||◌, ◌∙◌, ◌≡◌, ◌≢◌, Bool, None, Option, Some, ap, cond, false, not, option_map, refl, subst, sym, true}
use Rattle.{std.proofs.lemmas.{Bool.false≢true, Option.{none-some, same_Some}}, base.specs.declared.ids.ObjId.ObjId}
use Rattle.machine.specs.declared.object.{Context.Context, Object.{Object, Object as o}, ObjectKind.{ObjectKind, ObjectKind as kind}}
use Rattle.machine.specs.declared.{object.Reply.Reply, thread.{RunState.{RunState, RunState as state}, Tcb.Tcb}}
use Rattle.machine.specs.Finalising.{is_aborted, is_halted, leads_nowhere, link_after}
use Rattle.machine.specs.{Machine.{Machine, object_of, same_id}, Objects.kind_of_object, Releasing.{with_halted, with_unbound}}
use Rattle.machine.{specs.WellFormed.{IsThread, LinksAgree, WaitsAtKind, kind_of}, proofs.{Ids.itself, Leaving.apart_ids}}
use Rattle.{machine.proofs.{LookUps.one_id, RemovalTable.one_thread, RoundLemmas.or_second}, steps.proofs.LeavingLinks.link_was}
use Rattle.removal.{specs.Finalised.with_link_cut, proofs.{Part.{Follows, IsPart}, Reached.{Reach, and_halted, and_unbound}}}
use Rattle.removal.proofs.{Releases.{halted_step, unbound_step}, Tests.{alone, both_aborted, both_halted, both_links, is_link}}
use Rattle.removal.proofs.Tests.{link_is, neither, no_context, no_queue, no_reply, nobody_waits, or_false, plus, refuted}

module _ (old : Machine) (links : LinksAgree old) (done : ObjId → Bool) (x : ObjId) where
  -- who is reached by one more object that is no reply, or at which nobody waits, or that is no context

  abbrev pub NoReply : Type 0
  NoReply = (holding : Reply) → object_of old x ≢ Some (o.Reply holding)

  abbrev pub NoQueue : Type 0
  NoQueue = (run : RunState) (at : ObjectKind) → kind_of old x ≡ Some at → ¬ (WaitsAtKind run at)

  abbrev pub NoContext : Type 0
  NoContext = (context : Context) → object_of old x ≢ Some (o.Context context)

  abbrev pub NoThread : Type 0
  NoThread = (tcb : Tcb) → ¬ (IsThread old x tcb)

  pub no_queue_at :
      (object : Object) → object_of old x ≡ Some object → kind_of_object object ≢ kind.Endpoint
      → kind_of_object object ≢ kind.Notification → NoQueue
  no_queue_at object is not_endpoint not_notification run at e waits =
      let same : Some at ≡ Some (kind_of_object object) = sym e ∙ ap (option_map kind_of_object) is in
      nobody_waits (kind_of_object object) not_endpoint not_notification run
      (subst (λ (k : ObjectKind). WaitsAtKind run k) (same_Some at (kind_of_object object) same) waits)

  pub plain_halted :
      NoReply → (thread : ObjId) (tcb : Tcb) → IsThread old thread tcb → is_halted (plus done x) tcb.state ≡ is_halted done tcb.state
  plain_halted other thread tcb there =
      both_halted done x tcb.state
      ∙ (ap (λ b. is_halted done tcb.state || b) (no_reply old links thread tcb there x other) ∙ or_false (is_halted done tcb.state))

  pub plain_aborted :
      NoQueue → (thread : ObjId) (tcb : Tcb) → IsThread old thread tcb → is_aborted (plus done x) tcb.state ≡ is_aborted done tcb.state
  plain_aborted other thread tcb there =
      both_aborted done x tcb.state
      ∙ (ap (λ b. is_aborted done tcb.state || b) (no_queue old links thread tcb there x other) ∙ or_false (is_aborted done tcb.state))

  pub plain_bound :
      NoContext → (thread : ObjId) (tcb : Tcb) → IsThread old thread tcb
      → leads_nowhere (plus done x) tcb.context ≡ leads_nowhere done tcb.context
  plain_bound other thread tcb there =
      both_links done x tcb.context
      ∙ (ap (λ b. leads_nowhere done tcb.context || b) (no_context old links thread tcb there x other)
      ∙ or_false (leads_nowhere done tcb.context))

  -- what is asked where the object is no thread
  pub record Adds (reach next : Reach) : Type 0 where
    pub no_thread : (tcb : Tcb) → ¬ (IsThread old x tcb)
    pub more_halts : (thread : ObjId) → reach.halts thread ≡ true → next.halts thread ≡ true
    pub more_unbinds : (thread : ObjId) → reach.unbinds thread ≡ true → next.unbinds thread ≡ true
    pub halts :
        (thread : ObjId) (tcb : Tcb) → IsThread old thread tcb → done thread ≡ false
        → next.halts thread ≡ is_halted (plus done x) tcb.state
    pub aborts :
        (thread : ObjId) (tcb : Tcb) → IsThread old thread tcb → done thread ≡ false
        → next.aborts thread ≡ (not (is_halted (plus done x) tcb.state) && is_aborted (plus done x) tcb.state)
    pub unbinds :
        (thread : ObjId) (tcb : Tcb) → IsThread old thread tcb → done thread ≡ false
        → next.unbinds thread ≡ leads_nowhere (plus done x) tcb.context

  inside : (b s : Bool) → (b || s) ≡ true → s ≡ false → b ≡ true
  inside b s e apart = sym (or_false b) ∙ (ap (λ t. b || t) (sym apart) ∙ e)

  pub part_added : (reach next : Reach) → IsPart old done reach → Adds reach next → IsPart old (plus done x) next
  part_added reach next part adds =
      record {
        halts = λ thread tcb there stays. adds.halts thread tcb there (neither (done thread) (same_id thread x) stays).0;
        aborts = λ thread tcb there stays. adds.aborts thread tcb there (neither (done thread) (same_id thread x) stays).0;
        unbinds = λ thread tcb there stays. adds.unbinds thread tcb there (neither (done thread) (same_id thread x) stays).0;
        halts_it =
            λ thread tcb there gone.
            adds.more_halts thread
            (part.halts_it thread tcb there (inside (done thread) (same_id thread x) gone (other thread tcb there)));
        unbinds_it =
            λ thread tcb there gone.
            adds.more_unbinds thread
            (part.unbinds_it thread tcb there (inside (done thread) (same_id thread x) gone (other thread tcb there)));
      } where
        other : (thread : ObjId) (tcb : Tcb) → IsThread old thread tcb → same_id thread x ≡ false
        other thread tcb there =
            refuted (same_id thread x) (λ e. adds.no_thread tcb (ap (object_of old) (sym (one_id thread x e)) ∙ there))

  module _ (now : Machine) (follows : Follows old done now) where
    pub plain_aborts :
        NoReply → NoQueue → (thread : ObjId) (tcb : Tcb) → IsThread old thread tcb → done thread ≡ false
        → follows.reach.aborts thread ≡ (not (is_halted (plus done x) tcb.state) && is_aborted (plus done x) tcb.state)
    plain_aborts not_reply not_queue thread tcb there stays =
        follows.part.aborts thread tcb there stays
        ∙ (λ i. not (sym (plain_halted not_reply thread tcb there) i) && sym (plain_aborted not_queue thread tcb there) i)

    -- an object without links
    pub unlinked_step : NoThread → NoReply → NoQueue → NoContext → Follows old (plus done x) now
    unlinked_step no_thread not_reply not_queue not_context =
        record {
          reach = follows.reach;
          reached = follows.reached;
          part =
              part_added follows.reach follows.reach follows.part
              (record {
                no_thread = no_thread;
                more_halts = λ thread e. e;
                more_unbinds = λ thread e. e;
                halts =
                    λ thread tcb there stays.
                    follows.part.halts thread tcb there stays ∙ sym (plain_halted not_reply thread tcb there);
                aborts = plain_aborts not_reply not_queue;
                unbinds =
                    λ thread tcb there stays.
                    follows.part.unbinds thread tcb there stays ∙ sym (plain_bound not_context thread tcb there);
              });
        }

    -- a thread
    module _ (own : Tcb) (is : IsThread old x own) where
      thread_no_reply : NoReply
      thread_no_reply holding e = let same : Some (o.Reply holding) ≡ Some (o.Tcb own) = sym e ∙ is in cc

      thread_no_context : NoContext
      thread_no_context context e = let same : Some (o.Context context) ≡ Some (o.Tcb own) = sym e ∙ is in cc

      thread_no_queue : NoQueue
      thread_no_queue = no_queue_at (o.Tcb own) is (λ e. cc) (λ e. cc)

      its_own : (d s b : Bool) → (d || s) ≡ true → (d ≡ true → b ≡ true) → (s || b) ≡ true
      its_own d true b e more = refl
      its_own d false b e more = more (sym (or_false d) ∙ e)

      pub thread_step : Follows old (plus done x) (with_unbound (with_halted now x) x)
      thread_step =
          record {
            reach = and_unbound (and_halted follows.reach x) x;
            reached =
                unbound_step old (with_halted now x) (and_halted follows.reach x)
                (halted_step old now follows.reach follows.reached links x own is) links x own is;
            part =
                record {
                  halts =
                      λ thread tcb there stays.
                      let apart = neither (done thread) (same_id thread x) stays in
                      ap (λ b. b || follows.reach.halts thread) apart.1
                      ∙ (follows.part.halts thread tcb there apart.0 ∙ sym (plain_halted thread_no_reply thread tcb there));
                  aborts =
                      λ thread tcb there stays.
                      plain_aborts thread_no_reply thread_no_queue thread tcb there
                      (neither (done thread) (same_id thread x) stays).0;
                  unbinds =
                      λ thread tcb there stays.
                      let apart = neither (done thread) (same_id thread x) stays in
                      ap (λ b. b || follows.reach.unbinds thread) apart.1
                      ∙ (follows.part.unbinds thread tcb there apart.0 ∙ sym (plain_bound thread_no_context thread tcb there));
                  halts_it =
                      λ thread tcb there gone.
                      its_own (done thread) (same_id thread x) (follows.reach.halts thread) gone
                      (follows.part.halts_it thread tcb there);
                  unbinds_it =
                      λ thread tcb there gone.
                      its_own (done thread) (same_id thread x) (follows.reach.unbinds thread) gone
                      (follows.part.unbinds_it thread tcb there);
                };
          }

    -- a context
    module _ (own : Context) (is : object_of old x ≡ Some (o.Context own)) where
      context_no_reply : NoReply
      context_no_reply holding e = let same : Some (o.Reply holding) ≡ Some (o.Context own) = sym e ∙ is in cc

      context_no_thread : NoThread
      context_no_thread tcb e = let same : Some (o.Tcb tcb) ≡ Some (o.Context own) = sym e ∙ is in cc

      context_no_queue : NoQueue
      context_no_queue = no_queue_at (o.Context own) is (λ e. cc) (λ e. cc)

      -- a thread that has the context is the context's
      its_thread : (thread : ObjId) (tcb : Tcb) → IsThread old thread tcb → leads_nowhere (alone x) tcb.context ≡ true → own.thread ≡ Some thread
      its_thread thread tcb there e =
          let w = links.thread_context thread x tcb there (link_is x tcb.context e) in
          let same : Some (o.Context w.0) ≡ Some (o.Context own) = sym w.1 ∙ is in
          let one : w.0 ≡ own = cc in
          ap (λ (c : Context). c.thread) (sym one) ∙ w.2

      context_adds :
          (next : Reach) → ((thread : ObjId) → follows.reach.unbinds thread ≡ true → next.unbinds thread ≡ true)
          → next.halts ≡ follows.reach.halts → next.aborts ≡ follows.reach.aborts
          → ((thread : ObjId) (tcb : Tcb) → IsThread old thread tcb → done thread ≡ false
          → next.unbinds thread ≡ leads_nowhere (plus done x) tcb.context)
          → IsPart old (plus done x) next
      context_adds next more halts aborts unbinds =
          part_added follows.reach next follows.part
          (record {
            no_thread = context_no_thread;
            more_halts = λ thread e. ap (λ (h : ObjId → Bool). h thread) halts ∙ e;
            more_unbinds = more;
            halts =
                λ thread tcb there stays.
                ap (λ (h : ObjId → Bool). h thread) halts
                ∙ (follows.part.halts thread tcb there stays ∙ sym (plain_halted context_no_reply thread tcb there));
            aborts =
                λ thread tcb there stays.
                ap (λ (a : ObjId → Bool). a thread) aborts ∙ plain_aborts context_no_reply context_no_queue thread tcb there stays;
            unbinds = unbinds;
          })

      -- it has no thread left
      none_adds : link_after follows.reach.unbinds own.thread ≡ None → IsPart old (plus done x) follows.reach
      none_adds none =
          context_adds follows.reach (λ thread e. e) refl refl
          (λ thread tcb there stays.
          by_test thread tcb there stays (leads_nowhere (alone x) tcb.context) refl ∙ sym (both_links done x tcb.context)) where
            lost : (thread : ObjId) (b : Bool) → follows.reach.unbinds thread ≡ b → cond b None (Some thread) ≡ None → b ≡ true
            lost thread true u e = refl
            lost thread false u e = absurd (none-some thread (sym e))

            by_test :
                (thread : ObjId) (tcb : Tcb) → IsThread old thread tcb → done thread ≡ false → (b : Bool)
                → leads_nowhere (alone x) tcb.context ≡ b
                → follows.reach.unbinds thread ≡ (leads_nowhere done tcb.context || leads_nowhere (alone x) tcb.context)
            by_test thread tcb there stays true e =
                lost thread (follows.reach.unbinds thread) refl
                (sym (ap (link_after follows.reach.unbinds) (its_thread thread tcb there e)) ∙ none)
                ∙ sym (or_second (leads_nowhere done tcb.context) (leads_nowhere (alone x) tcb.context) e)
            by_test thread tcb there stays false e =
                follows.part.unbinds thread tcb there stays
                ∙ sym (ap (λ b. leads_nowhere done tcb.context || b) e ∙ or_false (leads_nowhere done tcb.context))

      -- its thread is unbound
      some_adds : (bound : ObjId) → own.thread ≡ Some bound → IsPart old (plus done x) (and_unbound follows.reach bound)
      some_adds bound holds =
          context_adds (and_unbound follows.reach bound)
          (λ thread e. or_second (same_id thread bound) (follows.reach.unbinds thread) e) refl refl
          (λ thread tcb there stays.
          by_test thread tcb there stays (leads_nowhere (alone x) tcb.context) refl ∙ sym (both_links done x tcb.context)) where
            its : (tcb : Tcb) × IsThread old bound tcb × (tcb.context ≡ Some x)
            its = links.context_thread x bound own is holds

            by_test :
                (thread : ObjId) (tcb : Tcb) → IsThread old thread tcb → done thread ≡ false → (b : Bool)
                → leads_nowhere (alone x) tcb.context ≡ b
                → (same_id thread bound || follows.reach.unbinds thread)
                ≡ (leads_nowhere done tcb.context || leads_nowhere (alone x) tcb.context)
            by_test thread tcb there stays true e =
                let same : thread ≡ bound = same_Some thread bound (sym (its_thread thread tcb there e) ∙ holds) in
                ap (λ b. b || follows.reach.unbinds thread) (ap (λ (t : ObjId). same_id t bound) same ∙ itself bound)
                ∙ sym (or_second (leads_nowhere done tcb.context) (leads_nowhere (alone x) tcb.context) e)
            by_test thread tcb there stays false e =
                ap (λ b. b || follows.reach.unbinds thread)
                (apart_ids thread bound
                (λ same.
                let one : its.0 ≡ tcb = one_thread old thread its.0 tcb (ap (object_of old) same ∙ its.1) there in
                false≢true (sym e ∙ is_link x tcb.context (ap (λ (t : Tcb). t.context) (sym one) ∙ its.2))))
                ∙ (follows.part.unbinds thread tcb there stays
                ∙ sym (ap (λ b. leads_nowhere done tcb.context || b) e ∙ or_false (leads_nowhere done tcb.context)))

      pub context_step : Follows old (plus done x) (with_link_cut now (link_after follows.reach.unbinds own.thread))
      context_step = by_link (link_after follows.reach.unbinds own.thread) refl where
        by_link :
            (link : Option ObjId) → link_after follows.reach.unbinds own.thread ≡ link
            → Follows old (plus done x) (with_link_cut now link)
        by_link None e = record { reach = follows.reach; reached = follows.reached; part = none_adds e }
        by_link (Some bound) e =
            let was = link_was follows.reach.unbinds own.thread bound e in
            let w = links.context_thread x bound own is was.0 in
            record {
              reach = and_unbound follows.reach bound;
              reached = unbound_step old now follows.reach follows.reached links bound w.0 w.1;
              part = some_adds bound was.0;
            }
