-- Threads that sleep: they can't make a call, and start only by a label that controls theirs. In every state of a run, each thread
-- whose label may not act sleeps.
use Rattle.std.proofs.{Common.{ℕ, ◌∙◌, ◌≡◌, None, Some, inl, inr, refl, subst, sym}, lemmas.Option.{none-some, same_Some}}
use Rattle.base.specs.declared.ids.ObjId.{ObjId}
use Rattle.machine.specs.declared.{object.Object.{Object, Object as o}, thread.{Receiving.Receiving, RunState.RunState as state, Tcb.Tcb}}
use Rattle.{machine.specs.{Authority.label_of, Layout.Layout, Machine.{Machine, object_of}}, policy.specs.Domain.EdgeTest}
use Rattle.integrity.specs.{Acting.MayAct, Awake.{IsAsleep, OthersSleep, SleepsOrActs}}
use Rattle.integrity.specs.Shrinks.{IsBlocked, Lessens, Lessens.{as_it_was, freed, released, unbound}, LosesLink}
use Rattle.integrity.{specs.Shrinks.{Shrinks, Stops, Stops.{aborted, goes_on, halted}}, proofs.Shrinking.same_tcb}

-- an object has one label, so each of its labels may act if one may
pub acts_of :
    (t : Layout) (allowed : EdgeTest) (m : Machine) (id : ObjId) (label : ℕ) → label_of t m id ≡ Some label
    → MayAct t allowed label → (a : ℕ) → label_of t m id ≡ Some a → MayAct t allowed a
acts_of t allowed m id label labelled acts a at = subst (MayAct t allowed) (same_Some label a (sym labelled ∙ at)) acts

-- an unchanged thread sleeps on, or still is of a label that may act
pub sleeps_on :
    (t : Layout) (allowed : EdgeTest) (m next : Machine) (id : ObjId) (thread : Tcb) → label_of t next id ≡ label_of t m id
    → SleepsOrActs t allowed m id thread → SleepsOrActs t allowed next id thread
sleeps_on t allowed m next id thread same (inl asleep) = inl asleep
sleeps_on t allowed m next id thread same (inr acts) = inr (λ a at. acts a (sym same ∙ at))

-- a thread that sleeps isn't blocked
not_blocked : (thread : Tcb) → IsAsleep thread → IsBlocked thread.state → ⊥
not_blocked thread (inl inactive) blocked = subst IsBlocked inactive blocked
not_blocked thread (inr ready) blocked = subst IsBlocked ready.0 blocked

pub asleep_waits : (thread : Tcb) (receiving : Receiving) → IsAsleep thread → thread.state ≡ state.Receiving receiving → ⊥
asleep_waits thread receiving asleep waits = not_blocked thread asleep (subst IsBlocked (sym waits) tt)

-- a blocked thread is of a label that may act
pub blocked_acts :
    (t : Layout) (allowed : EdgeTest) (m : Machine) (id : ObjId) (thread : Tcb) → OthersSleep t allowed m
    → object_of m id ≡ Some (o.Tcb thread) → IsBlocked thread.state → (label : ℕ) → label_of t m id ≡ Some label
    → MayAct t allowed label
blocked_acts t allowed m id thread others there blocked label labelled = by (others id thread there) where
  by : SleepsOrActs t allowed m id thread → MayAct t allowed label
  by (inl asleep) = absurd (not_blocked thread asleep blocked)
  by (inr acts) = acts label labelled

-- a thread that sleeps still sleeps without its context
pub unbound_sleeps : (thread : Tcb) → IsAsleep thread → IsAsleep (record thread { context = None })
unbound_sleeps thread (inl inactive) = inl inactive
unbound_sleeps thread (inr ready) = inr (ready.0, refl)

-- a thread that sleeps still sleeps if it only loses links

stops_asleep : (old new : Tcb) → Stops old new → LosesLink old.context new.context → IsAsleep old → IsAsleep new
stops_asleep old new (goes_on same inbox) link (inl inactive) = inl (same ∙ inactive)
stops_asleep old new (goes_on same inbox) (inl kept) (inr ready) = inr (same ∙ ready.0, kept ∙ ready.1)
stops_asleep old new (goes_on same inbox) (inr none) (inr ready) = inr (same ∙ ready.0, none)
stops_asleep old new (aborted blocked is inbox) link asleep = absurd (not_blocked old asleep blocked)
stops_asleep old new (halted blocked is inbox) link asleep = inl is

lessens_asleep :
    (old new : Object) (was is : Tcb) → Lessens old new → old ≡ o.Tcb was → new ≡ o.Tcb is → IsAsleep was → IsAsleep is
lessens_asleep old new was is (as_it_was same) x y asleep = subst IsAsleep (same_tcb was is (sym x ∙ sym same ∙ y)) asleep
lessens_asleep old new was is (released first then x' y' address stops link) x y asleep =
    subst IsAsleep (same_tcb then is (sym y' ∙ y))
    (stops_asleep first then stops link (subst IsAsleep (same_tcb was first (sym x ∙ x')) asleep))
lessens_asleep old new was is (freed first then x' y' address free) x y asleep = cc
lessens_asleep old new was is (unbound first then x' y' address share thread) x y asleep = cc

pub shrunk_asleep :
    (m next : Machine) (id : ObjId) (old new : Tcb) → Shrinks m next id → object_of m id ≡ Some (o.Tcb old)
    → object_of next id ≡ Some (o.Tcb new) → IsAsleep old → IsAsleep new
shrunk_asleep m next id old new (inl gone) was is asleep = absurd (none-some (o.Tcb new) (sym gone ∙ is))
shrunk_asleep m next id old new (inr less) was is asleep =
    lessens_asleep less.old less.new old new less.content (same_Some less.old (o.Tcb old) (sym less.was ∙ was))
    (same_Some less.new (o.Tcb new) (sym less.is ∙ is)) asleep
