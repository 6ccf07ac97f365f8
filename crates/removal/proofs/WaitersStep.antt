-- One more object at which all that wait are aborted: the threads that are reached are those of the set with it.
use Rattle.std.specs.{List.{fold, list_any}, Prelude.{All, Contains, None, Option, Some}}
use Rattle.std.proofs.{Common.{[], ◌&&◌, ◌||◌, ◌∙◌, ◌∷◌, ◌≡◌, Bool, List, ap, false, not, refl, subst, sym, true}, lemmas.Bool.false≢true}
use Rattle.{std.proofs.lemmas.List.Elements.{All-cons, All-contains, All-nil, All-weaker}, base.specs.declared.ids.ObjId.ObjId}
use Rattle.machine.specs.{declared.thread.Tcb.Tcb, Finalising.{is_aborted, is_halted}, Machine.{Machine, queue_of, same_id}}
use Rattle.machine.{specs.{Releasing.with_aborted, WellFormed.{IsThread, LinksAgree, WaitsAt}}, proofs.Ids.itself}
use Rattle.machine.proofs.{LookUps.one_id, Queues.{first_in, other_in}, RemovalTable.{one_thread, waits_aborted}, RoundLemmas.or_second}
use Rattle.steps.proofs.LeavingLinks.{AreReleased, member_now, member_was}
use Rattle.removal.{specs.Finalised.{members, with_waiters_aborted}, proofs.{Linked.reached_left, Part.Follows}}
use Rattle.removal.proofs.PartSteps.{NoContext, NoReply, NoThread, part_added, plain_bound, plain_halted}
use Rattle.removal.proofs.{Reached.{IsReached, Reach, and_aborted, has_left, leavers}, Releases.aborted_step}
use Rattle.removal.proofs.Tests.{alone, both_aborted, neither, or_false, plus, waits_there}

-- who is in a list, by a test

pub any_in : (id : ObjId) (threads : List ObjId) → list_any (same_id id) threads ≡ true → Contains threads id
any_in id [] e = absurd (false≢true e)
any_in id (first ∷ others) e = by_test (any_in id others) (same_id id first) refl e where
  by_test :
      (list_any (same_id id) others ≡ true → Contains others id) → (b : Bool) → same_id id first ≡ b
      → (b || list_any (same_id id) others) ≡ true → Contains (first ∷ others) id
  by_test later true tie found = subst (λ (t : ObjId). Contains (first ∷ others) t) (sym (one_id id first tie)) (first_in first others)
  by_test later false tie found = other_in first others id (later found)

all_any : (threads : List ObjId) → All (λ id. list_any (same_id id) threads ≡ true) threads
all_any [] = All-nil (λ id. list_any (same_id id) [] ≡ true)
all_any (first ∷ others) =
    All-cons (λ id. list_any (same_id id) (first ∷ others) ≡ true) first others
    (ap (λ b. b || list_any (same_id first) others) (itself first))
    (All-weaker (λ id. list_any (same_id id) others ≡ true) (λ id. list_any (same_id id) (first ∷ others) ≡ true)
    (λ id found. or_second (same_id id first) (list_any (same_id id) others) found) others (all_any others))

pub in_any : (id : ObjId) (threads : List ObjId) → Contains threads id → list_any (same_id id) threads ≡ true
in_any id threads within = All-contains (λ t. list_any (same_id t) threads ≡ true) threads id (all_any threads) within

-- some threads are aborted in turn

shuffle : (later first before : Bool) → (later || (first || before)) ≡ ((first || later) || before)
shuffle later true before = or_second later true refl
shuffle later false before = refl

all_aborts :
    (threads : List ObjId) (reach : Reach) (id : ObjId)
    → (fold and_aborted reach threads).aborts id ≡ (list_any (same_id id) threads || reach.aborts id)
all_aborts [] reach id = refl
all_aborts (first ∷ others) reach id =
    all_aborts others (and_aborted reach first) id
    ∙ shuffle (list_any (same_id id) others) (same_id id first) (reach.aborts id)

all_halts : (threads : List ObjId) (reach : Reach) → (fold and_aborted reach threads).halts ≡ reach.halts
all_halts [] reach = refl
all_halts (first ∷ others) reach = all_halts others (and_aborted reach first)

all_unbinds : (threads : List ObjId) (reach : Reach) → (fold and_aborted reach threads).unbinds ≡ reach.unbinds
all_unbinds [] reach = refl
all_unbinds (first ∷ others) reach = all_unbinds others (and_aborted reach first)

all_aborted :
    (old : Machine) → LinksAgree old → (threads : List ObjId) (now : Machine) (reach : Reach) → IsReached old reach now
    → ((thread : ObjId) → Contains threads thread → (tcb : Tcb) × IsThread old thread tcb × (reach.halts thread ≡ false))
    → IsReached old (fold and_aborted reach threads) (fold with_aborted now threads)
all_aborted old links [] now reach reached are = reached
all_aborted old links (first ∷ others) now reach reached are =
    let w = are first (first_in first others) in
    all_aborted old links others (with_aborted now first) (and_aborted reach first)
    (aborted_step old now reach reached links first w.0 w.1 w.2) (λ thread within. are thread (other_in first others thread within))

waiters_are : (m : Machine) (x : ObjId) → with_waiters_aborted m x ≡ fold with_aborted m (members (queue_of m x))
unfolding with_waiters_aborted
waiters_are m x = refl

module _ (old : Machine) (links : LinksAgree old) (done : ObjId → Bool) (x : ObjId) (now : Machine) (follows : Follows old done now)
    (no_thread : NoThread old links done x) (not_reply : NoReply old links done x) (no_context : NoContext old links done x) where
  abbrev waiters : List ObjId
  waiters = members (queue_of now x)

  abbrev next : Reach
  next = fold and_aborted follows.reach waiters

  is_member : (thread : ObjId) → Contains waiters thread → (threads : List ObjId) × (queue_of now x ≡ Some threads) × Contains threads thread
  is_member thread = by_queue (queue_of now x) refl where
    by_queue :
        (queue : Option (List ObjId)) → queue_of now x ≡ queue → Contains (members queue) thread
        → (threads : List ObjId) × (queue_of now x ≡ Some threads) × Contains threads thread
    by_queue None e within = absurd (false≢true (in_any thread [] within))
    by_queue (Some threads) e within = (threads, e, within)

  member_is : (thread : ObjId) (threads : List ObjId) → queue_of now x ≡ Some threads → Contains threads thread → Contains waiters thread
  member_is thread threads e within = subst (λ (q : Option (List ObjId)). Contains (members q) thread) (sym e) within

  left_now : AreReleased old (leavers follows.reach) now
  left_now = reached_left old now follows.reach follows.reached

  -- a waiter was one, and left no queue
  waiter_was :
      (thread : ObjId) → Contains waiters thread
      → (tcb : Tcb) × IsThread old thread tcb × (has_left follows.reach thread ≡ false) × WaitsAt tcb.state x
  waiter_was thread within =
      let at = is_member thread within in
      let was = member_was old now (leavers follows.reach) left_now x at.0 thread at.1 at.2 in
      let w = links.queued x was.0 thread was.1 was.2 in
      (w.0, w.2, was.3, w.3)

  reached_next : IsReached old next (fold with_aborted now waiters)
  reached_next =
      all_aborted old links waiters now follows.reach follows.reached
      (λ thread within.
      let w = waiter_was thread within in
      (w.0, w.1, (neither (follows.reach.halts thread) (follows.reach.aborts thread) w.2).0))

  module _ (thread : ObjId) (tcb : Tcb) (there : IsThread old thread tcb) (stays : done thread ≡ false) where
    abbrev h : Bool
    h = is_halted done tcb.state

    abbrev a : Bool
    a = is_aborted done tcb.state

    abbrev w : Bool
    w = is_aborted (alone x) tcb.state

    -- who waits there and isn't in the queue any more has left it
    has_gone : WaitsAt tcb.state x → list_any (same_id thread) waiters ≡ false → has_left follows.reach thread ≡ true
    has_gone waits absent = by_left (has_left follows.reach thread) refl where
      by_left : (b : Bool) → has_left follows.reach thread ≡ b → b ≡ true
      by_left true e = refl
      by_left false e =
          let at = links.waiting thread x tcb there waits in
          let is = member_now old now (leavers follows.reach) left_now x at.0 thread at.1 at.2 e refl in
          absurd (false≢true (sym absent ∙ in_any thread waiters (member_is thread is.0 is.1 is.2)))

    ways : has_left follows.reach thread ≡ (h || (not h && a))
    ways = λ i. follows.part.halts thread tcb there stays i || follows.part.aborts thread tcb there stays i

    gone_case : (h a : Bool) → (h || (not h && a)) ≡ true → (not h && a) ≡ (not h && (a || true))
    gone_case true a e = refl
    gone_case false true e = refl
    gone_case false false e = absurd (false≢true e)

    here_case : (h a : Bool) → (h || (not h && a)) ≡ false → true ≡ (not h && (a || true))
    here_case true a e = absurd (false≢true (sym e))
    here_case false true e = absurd (false≢true (sym e))
    here_case false false e = refl

    aborts_next : next.aborts thread ≡ (not (is_halted (plus done x) tcb.state) && is_aborted (plus done x) tcb.state)
    aborts_next =
        all_aborts waiters follows.reach thread
        ∙ (by_waits w refl (list_any (same_id thread) waiters) refl
        ∙ (λ i. not (sym (plain_halted old links done x not_reply thread tcb there) i) && sym (both_aborted done x tcb.state) i)) where
          by_waits :
              (waits : Bool) → w ≡ waits → (found : Bool) → list_any (same_id thread) waiters ≡ found
              → (list_any (same_id thread) waiters || follows.reach.aborts thread) ≡ (not h && (a || w))
          by_waits true is true e =
              ap (λ b. b || follows.reach.aborts thread) e
              ∙ (here_case h a (sym ways ∙ (waiter_was thread (any_in thread waiters e)).2) ∙ ap (λ b. not h && (a || b)) (sym is))
          by_waits true is false e =
              ap (λ b. b || follows.reach.aborts thread) e
              ∙ (follows.part.aborts thread tcb there stays
              ∙ (gone_case h a (sym ways ∙ has_gone (waits_there x tcb.state is) e) ∙ ap (λ b. not h && (a || b)) (sym is)))
          by_waits false is true e =
              let was = waiter_was thread (any_in thread waiters e) in
              let one : was.0 ≡ tcb = one_thread old thread was.0 tcb was.1 there in
              absurd
              (false≢true
              (sym is
              ∙ waits_aborted (alone x) tcb.state x (subst (λ (t : Tcb). WaitsAt t.state x) one was.3) (itself x)))
          by_waits false is false e =
              ap (λ b. b || follows.reach.aborts thread) e
              ∙ (follows.part.aborts thread tcb there stays
              ∙ (ap (λ b. not h && b) (sym (or_false a)) ∙ ap (λ b. not h && (a || b)) (sym is)))

  pub waiters_step : Follows old (plus done x) (with_waiters_aborted now x)
  waiters_step =
      subst (λ (n : Machine). Follows old (plus done x) n) (sym (waiters_are now x))
      (record {
        reach = next;
        reached = reached_next;
        part =
            part_added old links done x follows.reach next follows.part
            (record {
              no_thread = no_thread;
              more_halts = λ thread e. ap (λ (t : ObjId → Bool). t thread) (all_halts waiters follows.reach) ∙ e;
              more_unbinds = λ thread e. ap (λ (t : ObjId → Bool). t thread) (all_unbinds waiters follows.reach) ∙ e;
              halts =
                  λ thread tcb there stays.
                  ap (λ (t : ObjId → Bool). t thread) (all_halts waiters follows.reach)
                  ∙ (follows.part.halts thread tcb there stays
                  ∙ sym (plain_halted old links done x not_reply thread tcb there));
              aborts = aborts_next;
              unbinds =
                  λ thread tcb there stays.
                  ap (λ (t : ObjId → Bool). t thread) (all_unbinds waiters follows.reach)
                  ∙ (follows.part.unbinds thread tcb there stays
                  ∙ sym (plain_bound old links done x no_context thread tcb there));
            });
      })
