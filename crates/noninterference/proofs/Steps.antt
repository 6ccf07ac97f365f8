-- Admission: two machines that are alike to a label both admit a thread of the label, or both refuse it for the same cause; so its step
-- ends alike if its call does.
use Rattle.std.{specs.Prelude.{None, Ok, Option, Some}, proofs.Common.{ℕ, ◌∙◌, ◌≡◌, ap, false, inl, inr, refl, subst, sym, true}}
use Rattle.{std.proofs.lemmas.Bool.false≢true, base.specs.declared.{ids.ObjId.ObjId, kind.Kind.Kind as authority}}
use Rattle.machine.specs.declared.{call.{Call.{Call, Call as call}, Event.Event, Outcome.Outcome}, object.Object.{Object, Object as o}}
use Rattle.machine.specs.{declared.{object.Share.Share, thread.Tcb.Tcb}, Authority.label_of, Layout.Layout, Machine.{Machine, object_of}}
use Rattle.machine.specs.Step.{LacksMemory, Step, Step.{ends, lacks}, admitted, call_of, made_by, running_share, settled, step_of}
use Rattle.machine.{specs.{Step.{takes_memory, thread_in}, WellFormed.{IsThread, IsWellFormed}}, proofs.RunsLinks.runs_bound}
use Rattle.steps.proofs.{Admission.{IsCaller, admits}, Calls.event_done, Conditions.both_done}
use Rattle.policy.specs.{Change.ActorTest, Domain.EdgeTest}
use Rattle.integrity.specs.{Acting.HoldsOfActors, Awake.{IsAsleep, SleepsOrActs}, Invariant.IsSound, Shrinks.IsSame}
use Rattle.{integrity.proofs.{Awake.has_threads, Keeps.some_event, MessageParts.thread_edge, Runs.IsKept}, flows.specs.Seeing.WayToSee.runs}
use Rattle.noninterference.{specs.{Alike.KeepsAlike, Fixed.NeedsNodeOrThread}, proofs.Both.{AreBoth, own_same, seen_same}}
use Rattle.noninterference.proofs.{CallsStay.none_done, Ends.{EndsAlike, follows_alike, follows_same, settled_alike}, Finds.IsFixedAt}

thread_there : (object : Option Object) (thread : Tcb) → thread_in object ≡ Ok thread → object ≡ Some (o.Tcb thread)
thread_there (Some (o.Tcb tcb)) thread e = cc
thread_there _ thread e = cc

-- only a retype takes memory
taking_needs : (which : Call) → takes_memory which ≡ true → NeedsNodeOrThread which
taking_needs (call.Retype _ _ _ _ _ _) takes = tt
taking_needs _ takes = absurd (false≢true takes)

module _ (t : Layout) (allowed : EdgeTest) (acts : ActorTest) (a : ℕ) (m n : Machine) (both : AreBoth t allowed acts a m n) (caller : ObjId)
    (mine : label_of t m caller ≡ Some a) where
  -- the context that the thread runs on is seen
  running_alike : (thread : Tcb) → IsThread m caller thread → running_share n thread ≡ running_share m thread
  running_alike thread there = by_link thread.context refl where
    by_link : (link : Option ObjId) → thread.context ≡ link → running_share n thread ≡ running_share m thread
    by_link None is = rw is refl
    by_link (Some id) is =
        let context = both.one.well_formed.links.thread_context caller id thread there is in
        let label = both.one.of_table.labelled id (o.Context context.0) context.1 in
        let edge =
        thread_edge t allowed m (some_event caller) a m both.one caller id thread authority.Runs a label.0 there (runs_bound thread id is) mine
        label.1 in
        let same = seen_same t allowed acts a m n both id label.0 label.1 (runs edge) in
        let content = same.content in
        rw (is, content) refl

  admitted_alike : (core : ℕ) → admitted n core caller ≡ admitted m core caller
  unfolding admitted
  admitted_alike core =
      follows_same _ _ _ _ (ap thread_in (own_same t allowed acts a m n both caller mine).content)
      (λ thread is. follows_same _ _ _ _ (running_alike thread (thread_there (object_of m caller) thread is)) (λ share on. refl))

  pub made_alike :
      (core : ℕ) (which : Call) → (IsCaller m caller → EndsAlike m n (call_of m caller which) (call_of n caller which))
      → EndsAlike m n (made_by m (record { core = core; thread = caller; call = which }))
      (made_by n (record { core = core; thread = caller; call = which }))
  unfolding made_by
  made_alike core which calls =
      follows_alike m n _ _ _ _ (admitted_alike core) (λ share e. calls (admits m core caller share e))

-- a thread that sleeps isn't admitted

never_runs : (m : Machine) (thread : Tcb) (share : Share) → running_share m thread ≡ Ok share → IsAsleep thread → ⊥
never_runs m thread share e (inl inactive) = let err = rw inactive at e in cc
never_runs m thread share e (inr ready) = let err = rw (ready.0, ready.1) at e in cc

sleeping_alike : (m n : Machine) (thread : Tcb) → IsAsleep thread → running_share n thread ≡ running_share m thread
sleeping_alike m n thread (inl inactive) = rw inactive refl
sleeping_alike m n thread (inr ready) = rw (ready.0, ready.1) refl

-- a thread whose label doesn't act is refused alike, if it is the same in both
module _
    (t : Layout) (allowed : EdgeTest) (acts : ActorTest) (a : ℕ) (m n : Machine) (one : IsSound t allowed m) (kept : IsKept t allowed m)
    (actors : HoldsOfActors t allowed acts) (caller : ObjId) (mine : label_of t m caller ≡ Some a) (idle : acts a ≡ false)
    (same : IsSame m n caller) where
  asleep : (thread : Tcb) → IsThread m caller thread → IsAsleep thread
  asleep thread there = by_others (kept.others caller thread there) where
    by_others : SleepsOrActs t allowed m caller thread → IsAsleep thread
    by_others (inl asleep) = asleep
    by_others (inr may) =
        absurd (false≢true (sym idle ∙ actors a (may a mine) (has_threads t m one.of_table caller thread there a mine)))

  not_admitted : (core : ℕ) (share : Share) → admitted m core caller ≡ Ok share → ⊥
  unfolding admitted
  not_admitted core share e =
      let found = both_done (thread_in (object_of m caller)) _ share e in
      let runs = both_done (running_share m found.0) _ share found.2 in
      never_runs m found.0 runs.0 runs.1 (asleep found.0 (thread_there (object_of m caller) found.0 found.1))

  idle_admitted : (core : ℕ) → admitted n core caller ≡ admitted m core caller
  unfolding admitted
  idle_admitted core =
      follows_same _ _ _ _ (ap thread_in same.content)
      (λ thread is.
      follows_same _ _ _ _ (sleeping_alike m n thread (asleep thread (thread_there (object_of m caller) thread is))) (λ share on. refl))

  pub idle_alike :
      (core : ℕ) (which : Call)
      → EndsAlike m n (made_by m (record { core = core; thread = caller; call = which }))
      (made_by n (record { core = core; thread = caller; call = which }))
  unfolding made_by
  idle_alike core which = follows_alike m n _ _ _ _ (idle_admitted core) (λ share e. absurd (not_admitted core share e))

-- no event of a fixed system lacks memory
never_lacks :
    (m : Machine) (event : Event) (outcome : Outcome) (next : Machine) → IsWellFormed m → IsFixedAt m → LacksMemory m event outcome next → ⊥
never_lacks m event outcome next formed fixed lacking =
    let done = event_done m event lacking.made.0 lacking.made.1 formed lacking.could in
    none_done m lacking.made.1 event.thread fixed event.call (taking_needs event.call lacking.takes) done.done

-- two steps end alike if their events do
pub steps_alike :
    (m n : Machine) (event : Event) → IsWellFormed m → IsWellFormed n → IsFixedAt m → IsFixedAt n
    → EndsAlike m n (made_by m event) (made_by n event) → (outcome other : Outcome) (next after : Machine) → Step m event outcome next
    → Step n event other after → (other ≡ outcome) × KeepsAlike m n next after
unfolding step_of
steps_alike m n event formed formed_too fixed fixed_too made outcome other next after (ends one) (ends two) =
    let alike = settled_alike m n (made_by m event) (made_by n event) made in (
      sym (ap (λ r. r.0) two) ∙ alike.0 ∙ ap (λ r. r.0) one,
      subst (λ (x : Machine). KeepsAlike m n x after) (ap (λ r. r.1) one)
          (subst (λ (x : Machine). KeepsAlike m n (settled m (made_by m event)).1 x) (ap (λ r. r.1) two) alike.1),
    )
steps_alike m n event formed formed_too fixed fixed_too made outcome other next after (lacks lacking) two =
    absurd (never_lacks m event outcome next formed fixed lacking)
steps_alike m n event formed formed_too fixed fixed_too made outcome other next after one (lacks lacking) =
    absurd (never_lacks n event other after formed_too fixed_too lacking)
