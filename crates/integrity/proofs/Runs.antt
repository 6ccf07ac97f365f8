-- Every run from a sound machine is safe: by induction over its events, with one clause for each call.
use Rattle.std.proofs.Common.{[], ℕ, ◌∙◌, ◌∷◌, ◌≡◌, ◌⊎◌, Err, List, Ok, Result, Some, ap, inl, inr, refl, subst, sym, true}
use Rattle.{std.proofs.lemmas.Option.same_Some, base.specs.declared.{ids.ObjId.ObjId, refusal.Cause.Cause}}
use Rattle.machine.specs.declared.call.{Call.Call, Event.Event, Made.Made, Outcome.Outcome}
use Rattle.machine.specs.declared.{object.{Context.Context, Object.Object as o, Share.Share}, thread.Tcb.Tcb}
use Rattle.machine.specs.{Authority.label_of, Boot.IsBoot, Layout.Layout, Machine.{Machine, object_of}, Outcomes.IsRefused, Run.Run}
use Rattle.machine.specs.Step.{Step, Step.{ends, lacks}, admitted, made_by, running_share, settled, step_of, thread_in}
use Rattle.steps.proofs.{Admission.{IsCaller, admits}, Calls.{CallDone, EventDone, step_done, step_formed}, Conditions.{both_done, same_ok}}
use Rattle.{steps.proofs.Steps.refused_changes_nothing, policy.specs.{Change.ActorTest, Domain.EdgeTest}}
use Rattle.integrity.specs.{Acting.{HoldsOfActors, MayAct}, Altered.{IsAltered, IsNarrowStep}, Awake.CallersAreServed}
use Rattle.integrity.specs.{Awake.{IsAsleep, IsAwake, OthersSleep, SleepsOrActs}, Budgets.{KeepsBudgets, configures}, Invariant.IsSound}
use Rattle.integrity.{specs.{Keeping.IsSharp, Safe.{IsReached, IsSafe}, Shrinks.IsSame}, proofs.{Awake.has_threads, Bounds.narrow_allowed}}
use Rattle.integrity.proofs.{ContextKeeps.{bind_keeps, configure_keeps, may_configure, unbind_keeps}, Keeps.{Acts, Keeps}}
use Rattle.integrity.proofs.MessageKeeps.{RunsOn, endpoint_call_keeps, fetch_keeps, receive_keeps, reply_keeps, send_keeps}
use Rattle.integrity.proofs.{NotificationKeeps.{poll_keeps, signal_keeps, wait_keeps}, RemovalCalls.{delete_keeps, revoke_keeps}}
use Rattle.integrity.proofs.{RetypeKeeps.retype_keeps, Shrinking.{same_context, same_tcb}}
use Rattle.integrity.proofs.{SlotCalls.{derive_keeps, move_keeps}, SpaceKeeps.{clear_space_keeps, set_space_keeps}}
use Rattle.integrity.proofs.{ThreadKeeps.{resume_keeps, suspend_keeps}, WordsKeeps.{read_keeps, write_keeps}}
use Rattle.machine.specs.declared.call.Call.TheVariants as call

-- a made call of each kind
call_keeps :
    (t : Layout) (allowed : EdgeTest) (event : Event) (a : ℕ) (m next : Machine) → IsSound t allowed m → IsSharp t allowed
    → (made : Call) → event.call ≡ made → label_of t m event.thread ≡ Some a → IsCaller m event.thread → RunsOn m event.thread
    → CallDone m event.thread made next
    → Keeps t allowed m event a m next
call_keeps t allowed event a m next sound closed (call.Signal address) by labelled is runs done =
    signal_keeps t allowed event a m sound closed.uses_rise event.thread address labelled next done
call_keeps t allowed event a m next sound closed (call.Poll address) by labelled is runs done =
    poll_keeps t allowed event a m sound closed.uses_rise event.thread address labelled next done
call_keeps t allowed event a m next sound closed (call.Wait address) by labelled is runs done =
    wait_keeps t allowed event a m sound closed.uses_rise event.thread address labelled next is done
call_keeps t allowed event a m next sound closed (call.Send address words capability) by labelled is runs done =
    send_keeps t allowed event a m sound closed event.thread labelled is next address words capability done
call_keeps t allowed event a m next sound closed (call.Call address words capability) by labelled is runs done =
    endpoint_call_keeps t allowed event a m sound closed event.thread labelled is next address words capability done
call_keeps t allowed event a m next sound closed (call.Receive address reply slot) by labelled is runs done =
    receive_keeps t allowed event a m sound closed event.thread labelled is next address reply slot done runs
call_keeps t allowed event a m next sound closed (call.Reply address words) by labelled is runs done =
    reply_keeps t allowed event a m sound closed event.thread labelled is next address words done
call_keeps t allowed event a m next sound closed call.Fetch by labelled is runs done =
    fetch_keeps t allowed event a m sound closed event.thread labelled is next done
call_keeps t allowed event a m next sound closed (call.Copy to from rights) by labelled is runs done =
    derive_keeps t allowed event a m sound closed event.thread labelled to from next done
call_keeps t allowed event a m next sound closed (call.Mint to from rights given) by labelled is runs done =
    derive_keeps t allowed event a m sound closed event.thread labelled to from next done
call_keeps t allowed event a m next sound closed (call.Move to from) by labelled is runs done =
    move_keeps t allowed event a m sound closed event.thread labelled to from next done
call_keeps t allowed event a m next sound closed (call.Delete slot) by labelled is runs done =
    (delete_keeps t allowed event a m sound closed event.thread labelled slot next done).1
call_keeps t allowed event a m next sound closed (call.Revoke slot) by labelled is runs done =
    (revoke_keeps t allowed event a m sound closed event.thread labelled slot next done).1
call_keeps t allowed event a m next sound closed (call.Retype untyped of bits to offset count) by labelled is runs done =
    retype_keeps t allowed event a m sound closed event.thread labelled untyped of bits to offset count next done
call_keeps t allowed event a m next sound closed (call.Read address index) by labelled is runs done =
    read_keeps t allowed event a m sound closed event.thread labelled next done
call_keeps t allowed event a m next sound closed (call.Write address index word) by labelled is runs done =
    write_keeps t allowed event a m sound closed event.thread labelled next address index word done
call_keeps t allowed event a m next sound closed (call.SetSpace thread space) by labelled is runs done =
    set_space_keeps t allowed event a m sound closed event.thread labelled next thread space done
call_keeps t allowed event a m next sound closed (call.ClearSpace thread) by labelled is runs done =
    (clear_space_keeps t allowed event a m sound closed event.thread labelled next thread done).1
call_keeps t allowed event a m next sound closed (call.Suspend thread) by labelled is runs done =
    suspend_keeps t allowed event a m sound closed event.thread labelled next thread done
call_keeps t allowed event a m next sound closed (call.Resume thread) by labelled is runs done =
    resume_keeps t allowed event a m sound closed event.thread labelled next thread done
call_keeps t allowed event a m next sound closed (call.Configure control context budget period) by labelled is runs done =
    configure_keeps t allowed event a m sound closed event.thread labelled next control context budget period done
    (may_configure t allowed event a m sound closed labelled control context (ap configures by) done.governs done.id
    done.finds_control done.finds)
call_keeps t allowed event a m next sound closed (call.Bind context thread) by labelled is runs done =
    bind_keeps t allowed event a m sound closed event.thread labelled next context thread done
call_keeps t allowed event a m next sound closed (call.Unbind context) by labelled is runs done =
    unbind_keeps t allowed event a m sound closed event.thread labelled next context done

-- a thread that sleeps can't make a call
not_running : (m : Machine) (thread : Tcb) (share : Share) → running_share m thread ≡ Ok share → IsAsleep thread → ⊥
not_running m thread share e (inl inactive) = let err = rw inactive at e in cc
not_running m thread share e (inr ready) = let err = rw (ready.0, ready.1) at e in cc

-- a thread that is admitted is there, and has a share of the core
admitted_runs :
    (m : Machine) (core : ℕ) (caller : ObjId) (share : Share) → admitted m core caller ≡ Ok share
    → (thread : Tcb) × (object_of m caller ≡ Some (o.Tcb thread)) × (running : Share) × (running_share m thread ≡ Ok running)
unfolding admitted
admitted_runs m core caller share e =
    let found = both_done (thread_in (object_of m caller)) _ share e in
    let runs = both_done (running_share m found.0) _ share found.2 in
    let is = admits m core caller share e in
    let same : found.0 ≡ is.thread = same_ok (sym found.1 ∙ ap thread_in is.there) in
    (is.thread, is.there, runs.0, subst (λ (thread : Tcb). running_share m thread ≡ Ok runs.0) same runs.1)

-- an admitted thread is of a label that may act
admitted_acts :
    (t : Layout) (allowed : EdgeTest) (m : Machine) (core : ℕ) (caller : ObjId) (share : Share) → OthersSleep t allowed m
    → admitted m core caller ≡ Ok share → (a : ℕ) → label_of t m caller ≡ Some a → MayAct t allowed a
admitted_acts t allowed m core caller share others e a labelled =
    let runs = admitted_runs m core caller share e in
    by runs.0 runs.2 runs.3 (others caller runs.0 runs.1)
  where
    by :
        (thread : Tcb) (running : Share) → running_share m thread ≡ Ok running → SleepsOrActs t allowed m caller thread
        → MayAct t allowed a
    by thread running can (inl asleep) = absurd (not_running m thread running can asleep)
    by thread running can (inr acts) = acts a labelled

-- an admitted thread runs on a context
admitted_on :
    (m : Machine) (core : ℕ) (caller : ObjId) (share : Share) → IsCaller m caller → admitted m core caller ≡ Ok share → RunsOn m caller
admitted_on m core caller share is e tcb there none =
    let runs = admitted_runs m core caller share e in
    let same : is.thread ≡ runs.0 = same_tcb is.thread runs.0 (same_Some (o.Tcb is.thread) (o.Tcb runs.0) (sym is.there ∙ runs.1)) in
    let also : tcb ≡ runs.0 = same_tcb tcb runs.0 (same_Some (o.Tcb tcb) (o.Tcb runs.0) (sym there ∙ runs.1)) in
    not_running m runs.0 runs.2 runs.3
    (inr (
      ap (λ (x : Tcb). x.state) (sym same) ∙ is.ready,
      ap (λ (x : Tcb). x.context) (sym also) ∙ none,
    ))

-- the thread of an event has a label that may act
abbrev IsOfActing : Layout → EdgeTest → Machine → Event → Type 0
IsOfActing t allowed m event = (a : ℕ) × (label_of t m event.thread ≡ Some a) × MayAct t allowed a

-- a step that isn't refused is of a thread that is admitted
step_admits :
    (m next : Machine) (event : Event) (outcome : Outcome) → Step m event outcome next
    → IsRefused outcome ⊎ ((share : Share) × (admitted m event.core event.thread ≡ Ok share))
unfolding step_of made_by
step_admits m next event outcome (lacks without) = inl (subst IsRefused (sym without.refused) tt)
step_admits m next event outcome (ends e) = by_made (made_by m event) refl e where
  by_made :
      (r : Result (Made × Machine) Cause) → made_by m event ≡ r → settled m r ≡ (outcome, next)
      → IsRefused outcome ⊎ ((share : Share) × (admitted m event.core event.thread ≡ Ok share))
  by_made (Ok made) is same =
      let admission = both_done (admitted m event.core event.thread) _ made is in inr (admission.0, admission.1)
  by_made (Err cause) is same = inl (subst IsRefused (ap (λ p. p.0) same) tt)

-- a step that isn't refused is of a label that may act
step_acts :
    (t : Layout) (allowed : EdgeTest) (m next : Machine) (event : Event) (outcome : Outcome) → IsSound t allowed m
    → OthersSleep t allowed m → Step m event outcome next → IsRefused outcome ⊎ IsOfActing t allowed m event
step_acts t allowed m next event outcome sound others step = elim (step_admits m next event outcome step) [
  | inl refused ↦ inl refused
  | inr admission ↦
      let caller = admits m event.core event.thread admission.0 admission.1 in
      let label = sound.of_table.labelled event.thread (o.Tcb caller.thread) caller.there in
      inr (label.0, label.1, admitted_acts t allowed m event.core event.thread admission.0 others admission.1 label.0 label.1)
]

-- what the machines of a run keep: they are sound, each thread whose label may not act sleeps, and each caller is served
pub record IsKept (t : Layout) (allowed : EdgeTest) (m : Machine) : Type 0 where
  pub sound : IsSound t allowed m
  pub others : OthersSleep t allowed m
  pub served : CallersAreServed t allowed m

-- the label of a thread that may act is awake in such a machine, by each test that holds of all that may act and may have threads
abbrev awake_at :
    (t : Layout) (allowed : EdgeTest) (m : Machine) → IsKept t allowed m → (acts : ActorTest) → HoldsOfActors t allowed acts
    → (thread : ObjId) (tcb : Tcb) → object_of m thread ≡ Some (o.Tcb tcb) → (a : ℕ) → label_of t m thread ≡ Some a
    → MayAct t allowed a → IsAwake t allowed m a
awake_at t allowed m kept acts actors thread tcb there a labelled acting = record {
  acting = acting;
  others = kept.others;
  served = kept.served;
  acts = acts;
  actors = actors;
  actor = actors a acting (has_threads t m kept.sound.of_table thread tcb there a labelled);
}

-- a step of such a machine is bounded by the labels that may act, guards budgets, and leads to such a machine
record StepKeeps (t : Layout) (allowed : EdgeTest) (m : Machine) (event : Event) (next : Machine) : Type 0 where
  kept : IsKept t allowed next
  narrow : (acts : ActorTest) → HoldsOfActors t allowed acts → IsNarrowStep t allowed acts m event next
  budgets : KeepsBudgets t allowed m event next

-- each change is within the bounds of the caller's label
by_caller :
    (t : Layout) (allowed : EdgeTest) (acts : ActorTest) (event : Event) (a : ℕ) (m next : Machine) (id : ObjId)
    → label_of t m event.thread ≡ Some a → Acts t allowed acts a m next id
    → IsSame m next id ⊎ IsAltered t allowed acts m next event.thread id
by_caller t allowed acts event a m next id labelled (inl same) = inl same
by_caller t allowed acts event a m next id labelled (inr may) = inr (record { caller = a; calls = labelled; may = may })

nothing_changed : (t : Layout) (allowed : EdgeTest) (m : Machine) (event : Event) → IsKept t allowed m → StepKeeps t allowed m event m
nothing_changed t allowed m event kept = record {
  kept = kept;
  narrow = λ acts actors id. inl (record { content = refl; queue = refl; words = refl; slots = λ index. refl });
  budgets = λ id old new was is.
      let same = same_context new old (same_Some (o.Context new) (o.Context old) (sym is ∙ was)) in
      inl (ap (λ (context : Context). context.share) same);
}

step_keeps :
    (t : Layout) (allowed : EdgeTest) (m next : Machine) → IsKept t allowed m → IsSharp t allowed
    → (event : Event) (outcome : Outcome) → Step m event outcome next → StepKeeps t allowed m event next
step_keeps t allowed m next kept closed event outcome step =
    by (step_done m event outcome next kept.sound.well_formed step) (step_admits m next event outcome step)
  where
    same : next ≡ m → StepKeeps t allowed m event next
    same is = subst (λ (after : Machine). StepKeeps t allowed m event after) (sym is) (nothing_changed t allowed m event kept)

    by :
        EventDone m event next ⊎ (next ≡ m) → IsRefused outcome ⊎ ((share : Share) × (admitted m event.core event.thread ≡ Ok share))
        → StepKeeps t allowed m event next
    by (inr is) admission = same is
    by (inl done) (inl refused) = same (refused_changes_nothing m event outcome next step refused)
    by (inl done) (inr admission) =
        let label = kept.sound.of_table.labelled event.thread (o.Tcb done.caller.thread) done.caller.there in
        let acts = admitted_acts t allowed m event.core event.thread admission.0 kept.others admission.1 label.0 label.1 in
        let runs = admitted_on m event.core event.thread admission.0 done.caller admission.1 in
        let keeps = call_keeps t allowed event label.0 m next kept.sound closed event.call refl label.1 done.caller runs done.done in
        let awake : (test : ActorTest) → HoldsOfActors t allowed test → IsAwake t allowed m label.0 =
        λ test actors.
        awake_at t allowed m kept test actors event.thread done.caller.thread done.caller.there label.0 label.1 acts in
        let everyone = awake (λ l. true) (λ l acting threads. refl) in
        record {
          kept = record {
            sound = record {
              well_formed = step_formed m event outcome next kept.sound.well_formed step;
              of_table = keeps.held.of_table;
              confined = keeps.held.confined;
              nodes = keeps.held.nodes;
              idlers = keeps.held.idlers;
              borrowers = keeps.held.borrowers;
            };
            others = keeps.sleeps everyone kept.others;
            served = keeps.serves everyone kept.served;
          };
          narrow = λ test actors id.
              by_caller t allowed test event label.0 m next id label.1 (keeps.acts (awake test actors) id);
          budgets = keeps.budgets;
        }

-- such machines lead to such machines
run_kept :
    (t : Layout) (allowed : EdgeTest) → IsSharp t allowed → (first m : Machine) (events : List Event)
    (outcomes : List Outcome) → IsKept t allowed first → Run first events outcomes m → IsKept t allowed m
run_kept t allowed closed first m [] [] kept run = subst (λ (after : Machine). IsKept t allowed after) run kept
run_kept t allowed closed first m [] (outcome ∷ outcomes) kept run = absurd run
run_kept t allowed closed first m (event ∷ events) [] kept run = absurd run
run_kept t allowed closed first m (event ∷ events) (outcome ∷ outcomes) kept run =
    run_kept t allowed closed run.0 m events outcomes
    (step_keeps t allowed first run.0 kept closed event outcome run.1).kept run.2

-- the boot state of a table is such a machine
abbrev pub StartsKept : Layout → EdgeTest → Type 0
StartsKept t allowed =
    (boot : Machine) → IsBoot t boot → IsSound t allowed boot × OthersSleep t allowed boot × CallersAreServed t allowed boot

-- each machine that a run from the boot state reaches is such a machine
pub kept_at : (t : Layout) (allowed : EdgeTest) → IsSharp t allowed → StartsKept t allowed → (m : Machine) → IsReached t m → IsKept t allowed m
kept_at t allowed closed at_boot m reached =
    let first = at_boot reached.boot reached.booted in
    run_kept t allowed closed reached.boot m reached.events reached.outcomes
    (record { sound = first.0; others = first.1; served = first.2 }) reached.run

pub sound_at : (t : Layout) (allowed : EdgeTest) → IsSharp t allowed → StartsKept t allowed → (m : Machine) → IsReached t m → IsSound t allowed m
sound_at t allowed closed at_boot m reached = (kept_at t allowed closed at_boot m reached).sound

-- the headline, if the boot state is such a machine
pub safe_from : (t : Layout) (allowed : EdgeTest) → IsSharp t allowed → StartsKept t allowed → IsSafe t allowed
safe_from t allowed closed at_boot =
    record {
      labelled = λ m reached. (at m reached).sound.of_table.labelled;
      confined = λ m reached. (at m reached).sound.confined;
      integrity = λ m next event outcome reached step.
          narrow_allowed t allowed (λ l. true) m next event
          ((keeps m next event outcome reached step).narrow (λ l. true) (λ l acting threads. refl));
      narrow = λ acts actors m next event outcome reached step. (keeps m next event outcome reached step).narrow acts actors;
      budgets = λ m next event outcome reached step. (keeps m next event outcome reached step).budgets;
      acting = λ m next event outcome reached step.
          let kept = at m reached in step_acts t allowed m next event outcome kept.sound kept.others step;
    }
  where
    at : (m : Machine) → IsReached t m → IsKept t allowed m
    at = kept_at t allowed closed at_boot

    keeps :
        (m next : Machine) (event : Event) (outcome : Outcome) → IsReached t m → Step m event outcome next
        → StepKeeps t allowed m event next
    keeps m next event outcome reached step = step_keeps t allowed m next (at m reached) closed event outcome step
