-- One more reply that lets go of its thread: the threads that are reached are those of the set with it.
use Rattle.std.{specs.Prelude.{Some, option_map}, proofs.Common.{ℕ, ◌&&◌, ◌||◌, ◌∙◌, ◌≡◌, Bool, ap, false, not, refl, subst, sym, true}}
use Rattle.{std.proofs.lemmas.Bool.false≢true, base.specs.declared.ids.ObjId.ObjId}
use Rattle.machine.specs.declared.{object.{Object.Object as o, Reply.Reply, ReplyState.ReplyState}, thread.Tcb.Tcb}
use Rattle.machine.specs.{Finalising.{IsHolding, is_aborted, is_halted}, Machine.{Machine, object_of, same_id}}
use Rattle.machine.specs.{Releasing.{reply_by, with_halted, with_holder_halted}, WellFormed.{IsThread, LinksAgree}}
use Rattle.machine.proofs.{HeldThreads.links_of, Ids.itself, Leaving.{Names, apart_ids}, RemovalTable.one_thread, RoundLemmas.or_second}
use Rattle.steps.proofs.LeavingLinks.{AreReleased, holder_now, holder_was}
use Rattle.removal.proofs.{Linked.reached_left, Part.{Follows, IsPart}}
use Rattle.removal.proofs.PartSteps.{NoContext, NoQueue, NoThread, no_queue_at, part_added, plain_aborted, plain_bound}
use Rattle.removal.proofs.{Reached.{Reach, and_halted, has_left, leavers, object_by}, Releases.halted_step}
use Rattle.removal.proofs.Tests.{alone, and_false, both_halted, it_is_named, names_it, or_false, plus, refuted, waited_kind, waits_in}
use Rattle.machine.specs.declared.object.ReplyState.TheVariants as reply
use Rattle.machine.specs.declared.thread.RunState.TheVariants as state

holder_none :
    (m : Machine) (x : ObjId) (address : ℕ) → object_of m x ≡ Some (o.Reply (record { address = address; state = reply.Free }))
    → with_holder_halted m x ≡ m
unfolding with_holder_halted
holder_none m x address there = rw there refl

holder_waits :
    (m : Machine) (x thread : ObjId) (address : ℕ)
    → object_of m x ≡ Some (o.Reply (record { address = address; state = reply.Waiting thread }))
    → with_holder_halted m x ≡ with_halted m thread
unfolding with_holder_halted
holder_waits m x thread address there = rw there refl

holder_called :
    (m : Machine) (x thread : ObjId) (address : ℕ)
    → object_of m x ≡ Some (o.Reply (record { address = address; state = reply.Called thread }))
    → with_holder_halted m x ≡ with_halted m thread
unfolding with_holder_halted
holder_called m x thread address there = rw there refl

-- a reply holds one thread
holds_one : (run : ReplyState) (a b : ObjId) → IsHolding run a → IsHolding run b → a ≡ b
holds_one (reply.Waiting held) a b p q = sym p ∙ q
holds_one (reply.Called held) a b p q = sym p ∙ q
holds_one reply.Free a b p q = absurd p

module _ (old : Machine) (links : LinksAgree old) where
  -- the thread that a reply holds
  pub holder_thread :
      (x thread : ObjId) (own : Reply) → object_of old x ≡ Some (o.Reply own) → IsHolding own.state thread
      → (tcb : Tcb) × IsThread old thread tcb × Names tcb.state x
  holder_thread x thread own is holds =
      let w = thread_of own.state (is ∙ refl) holds in (w.0, w.1, (links_of old links thread w.0 w.1).held x own is holds) where
        thread_of :
            (run : ReplyState) → object_of old x ≡ Some (o.Reply (record { address = own.address; state = run })) → IsHolding run thread
            → (tcb : Tcb) × IsThread old thread tcb
        thread_of (reply.Waiting waiter) at same =
            let w = links.waiting_reply x waiter own.address at in (w.0, ap (object_of old) (sym same) ∙ w.1)
        thread_of (reply.Called caller) at same =
            let w = links.reply_called x caller own.address at in (w.0, ap (object_of old) (sym same) ∙ w.1)
        thread_of reply.Free at same = absurd same

  module _ (done : ObjId → Bool) (only : (id : ObjId) → done id ≡ true → (holding : Reply) × (object_of old id ≡ Some (o.Reply holding)))
      (x : ObjId) (own : Reply) (is : object_of old x ≡ Some (o.Reply own)) (now : Machine) (follows : Follows old done now) where
    no_thread : NoThread old links done x
    no_thread tcb e = let same : Some (o.Tcb tcb) ≡ Some (o.Reply own) = sym e ∙ is in cc

    no_context : NoContext old links done x
    no_context context e = let same : Some (o.Context context) ≡ Some (o.Reply own) = sym e ∙ is in cc

    no_queue : NoQueue old links done x
    no_queue = no_queue_at old links done x (o.Reply own) is (λ e. cc) (λ e. cc)

    -- nobody waits at a reply, so nobody is aborted yet
    idle : (thread : ObjId) (tcb : Tcb) → IsThread old thread tcb → is_aborted done tcb.state ≡ false
    idle thread tcb there =
        refuted (is_aborted done tcb.state)
        (λ e.
        let at = waits_in done tcb.state e in
        let its = only at.0 at.2 in
        let w = waited_kind old links thread tcb there at.0 at.1 in
        no_queue_at old links done at.0 (o.Reply its.0) its.1 (λ e. cc) (λ e. cc) tcb.state w.0 w.1 w.2)

    not_aborted : (thread : ObjId) (tcb : Tcb) → IsThread old thread tcb → done thread ≡ false → follows.reach.aborts thread ≡ false
    not_aborted thread tcb there stays =
        follows.part.aborts thread tcb there stays
        ∙ (ap (λ a. not (is_halted done tcb.state) && a) (idle thread tcb there) ∙ and_false (not (is_halted done tcb.state)))

    reply_adds :
        (next : Reach) → next.unbinds ≡ follows.reach.unbinds → next.aborts ≡ follows.reach.aborts
        → ((thread : ObjId) → follows.reach.halts thread ≡ true → next.halts thread ≡ true)
        → ((thread : ObjId) (tcb : Tcb) → IsThread old thread tcb → done thread ≡ false
        → next.halts thread ≡ (is_halted done tcb.state || is_halted (alone x) tcb.state))
        → IsPart old (plus done x) next
    reply_adds next unbinds aborts more halts =
        part_added old links done x follows.reach next follows.part
        (record {
          no_thread = no_thread;
          more_halts = more;
          more_unbinds = λ thread e. ap (λ (u : ObjId → Bool). u thread) unbinds ∙ e;
          halts = λ thread tcb there stays. halts thread tcb there stays ∙ sym (both_halted done x tcb.state);
          aborts =
              λ thread tcb there stays.
              ap (λ (a : ObjId → Bool). a thread) aborts
              ∙ (not_aborted thread tcb there stays
              ∙ sym (ap (λ a. not (is_halted (plus done x) tcb.state) && a)
              (plain_aborted old links done x no_queue thread tcb there ∙ idle thread tcb there)
              ∙ and_false (not (is_halted (plus done x) tcb.state))));
          unbinds =
              λ thread tcb there stays.
              ap (λ (u : ObjId → Bool). u thread) unbinds
              ∙ (follows.part.unbinds thread tcb there stays ∙ sym (plain_bound old links done x no_context thread tcb there));
        })

    -- who names it is held by it
    held : (thread : ObjId) (tcb : Tcb) → IsThread old thread tcb → is_halted (alone x) tcb.state ≡ true → IsHolding own.state thread
    held thread tcb there e =
        let w = (links_of old links thread tcb there).named x (names_it x tcb.state e) in
        let same : Some (o.Reply w.0) ≡ Some (o.Reply own) = sym w.1 ∙ is in
        let one : w.0 ≡ own = cc in
        subst (λ (r : Reply). IsHolding r.state thread) one w.2

    left_now : AreReleased old (leavers follows.reach) now
    left_now = reached_left old now follows.reach follows.reached

    abbrev left : ReplyState
    left = reply_by (has_left follows.reach) own.state

    left_there : object_of now x ≡ Some (o.Reply (record { address = own.address; state = left }))
    left_there = follows.reached.objects x ∙ ap (option_map (object_by follows.reach x)) is

    -- it holds nobody any more
    none_adds : left ≡ reply.Free → IsPart old (plus done x) follows.reach
    none_adds free =
        reply_adds follows.reach refl refl (λ thread e. e)
        (λ thread tcb there stays. by_test thread tcb there stays (is_halted (alone x) tcb.state) refl) where
          has_gone : (thread : ObjId) → IsHolding own.state thread → (b : Bool) → has_left follows.reach thread ≡ b → b ≡ true
          has_gone thread holds true e = refl
          has_gone thread holds false e =
              let at = holder_now old now (leavers follows.reach) left_now x own thread is holds e refl in
              let same : Some (o.Reply own) ≡ Some (o.Reply (record { address = own.address; state = left })) = sym at ∙ left_there in
              let one : own ≡ record { address = own.address; state = left } = cc in
              absurd
              (subst (λ (run : ReplyState). IsHolding run thread) free
              (subst (λ (r : Reply). IsHolding r.state thread) one holds))

          by_test :
              (thread : ObjId) (tcb : Tcb) → IsThread old thread tcb → done thread ≡ false → (b : Bool)
              → is_halted (alone x) tcb.state ≡ b
              → follows.reach.halts thread ≡ (is_halted done tcb.state || is_halted (alone x) tcb.state)
          by_test thread tcb there stays true e =
              sym (or_false (follows.reach.halts thread))
              ∙ (ap (λ a. follows.reach.halts thread || a) (sym (not_aborted thread tcb there stays))
              ∙ (has_gone thread (held thread tcb there e) (has_left follows.reach thread) refl
              ∙ sym (or_second (is_halted done tcb.state) (is_halted (alone x) tcb.state) e)))
          by_test thread tcb there stays false e =
              follows.part.halts thread tcb there stays
              ∙ sym (ap (λ b. is_halted done tcb.state || b) e ∙ or_false (is_halted done tcb.state))

    -- its thread is halted
    some_adds : (bound : ObjId) → IsHolding own.state bound → IsPart old (plus done x) (and_halted follows.reach bound)
    some_adds bound holds =
        reply_adds (and_halted follows.reach bound) refl refl
        (λ thread e. or_second (same_id thread bound) (follows.reach.halts thread) e)
        (λ thread tcb there stays. by_test thread tcb there stays (is_halted (alone x) tcb.state) refl) where
          its : (tcb : Tcb) × IsThread old bound tcb × Names tcb.state x
          its = holder_thread x bound own is holds

          by_test :
              (thread : ObjId) (tcb : Tcb) → IsThread old thread tcb → done thread ≡ false → (b : Bool)
              → is_halted (alone x) tcb.state ≡ b
              → (same_id thread bound || follows.reach.halts thread)
              ≡ (is_halted done tcb.state || is_halted (alone x) tcb.state)
          by_test thread tcb there stays true e =
              let same : thread ≡ bound = holds_one own.state thread bound (held thread tcb there e) holds in
              ap (λ b. b || follows.reach.halts thread) (ap (λ (t : ObjId). same_id t bound) same ∙ itself bound)
              ∙ sym (or_second (is_halted done tcb.state) (is_halted (alone x) tcb.state) e)
          by_test thread tcb there stays false e =
              ap (λ b. b || follows.reach.halts thread)
              (apart_ids thread bound
              (λ same.
              let one : its.0 ≡ tcb = one_thread old thread its.0 tcb (ap (object_of old) same ∙ its.1) there in
              false≢true (sym e ∙ it_is_named x tcb.state (subst (λ (t : Tcb). Names t.state x) one its.2))))
              ∙ (follows.part.halts thread tcb there stays
              ∙ sym (ap (λ b. is_halted done tcb.state || b) e ∙ or_false (is_halted done tcb.state)))

    halted_holder : (bound : ObjId) → IsHolding left bound → Follows old (plus done x) (with_halted now bound)
    halted_holder bound holds =
        let was =
        holder_was old now (leavers follows.reach) left_now x (record { address = own.address; state = left }) bound left_there holds in
        let same : Some (o.Reply (record { address = own.address; state = left })) ≡ Some (o.Reply own) = sym was.0 ∙ is in
        let one : record { address = own.address; state = left } ≡ own = cc in
        let held_own : IsHolding own.state bound = subst (λ (r : Reply). IsHolding r.state bound) one holds in
        let w = holder_thread x bound own is held_own in
        record {
          reach = and_halted follows.reach bound;
          reached = halted_step old now follows.reach follows.reached links bound w.0 w.1;
          part = some_adds bound held_own;
        }

    pub reply_step : Follows old (plus done x) (with_holder_halted now x)
    reply_step = by_state left refl where
      by_state : (run : ReplyState) → left ≡ run → Follows old (plus done x) (with_holder_halted now x)
      by_state reply.Free e =
          subst (λ (n : Machine). Follows old (plus done x) n)
          (sym (holder_none now x own.address
          (left_there ∙ ap (λ (s : ReplyState). Some (o.Reply (record { address = own.address; state = s }))) e)))
          (record { reach = follows.reach; reached = follows.reached; part = none_adds e })
      by_state (reply.Waiting bound) e =
          subst (λ (n : Machine). Follows old (plus done x) n)
          (sym (holder_waits now x bound own.address
          (left_there ∙ ap (λ (s : ReplyState). Some (o.Reply (record { address = own.address; state = s }))) e)))
          (halted_holder bound (subst (λ (s : ReplyState). IsHolding s bound) (sym e) refl))
      by_state (reply.Called bound) e =
          subst (λ (n : Machine). Follows old (plus done x) n)
          (sym (holder_called now x bound own.address
          (left_there ∙ ap (λ (s : ReplyState). Some (o.Reply (record { address = own.address; state = s }))) e)))
          (halted_holder bound (subst (λ (s : ReplyState). IsHolding s bound) (sym e) refl))
