-- A removal keeps what a part of a call keeps: the machine stays within the policy, and what differs shrinks and is of labels that
-- may be altered.
use Rattle.std.proofs.{Common.{ℕ, ◌∙◌, ◌≡◌, ◌⊎◌, Bool, Some, ap, arith, inl, inr, refl, sym}, lemmas.Option.{none-some, same_Some}}
use Rattle.base.specs.declared.ids.{ObjId.ObjId, SlotRef.SlotRef}
use Rattle.machine.specs.declared.{call.Event.Event, object.{Context.Context, Object.{Object, Object as o}, ObjectKind.ObjectKind as kind}}
use Rattle.machine.specs.{declared.thread.Tcb.Tcb, Authority.label_of, Finalising.finalised, Layout.Layout}
use Rattle.machine.specs.{Machine.{Machine, object_of}, Objects.{address_of, kind_of_object}, Removal.{removed, vanishes}}
use Rattle.machine.proofs.{RemovalLooks.next-removed, RemovalStays.{like_finalised, object_was}}
use Rattle.{steps.proofs.RemovalNumbers.removed_formed, policy.specs.{Change.WayToChange, Domain.EdgeTest, NarrowTake.WayToShrink}}
use Rattle.integrity.specs.{Awake.{IsAwake, OthersSleep, SleepsOrActs}, Invariant.IsSound, Keeping.IsSharp, Removals.MayRemove}
use Rattle.integrity.{specs.Shrinks.IsSame, proofs.{Asleep.shrunk_asleep, Held.held_of, Keeps.{Acts, Keeps}, ObjectLabels.labelled_there}}
use Rattle.integrity.proofs.RemovalConfined.{label_was, removed_confined, removed_nodes, removed_of_table}
use Rattle.integrity.proofs.{RemovalCuts.removed_alters, RemovalIdlers.{removed_borrowers, removed_idlers}}
use Rattle.integrity.proofs.{RemovalServed.removed_served, RemovalShrinks.removed_shrinks, Shrinking.same_context}

thread_by_kind : (object : Object) → kind_of_object object ≡ kind.Tcb → (thread : Tcb) × (object ≡ o.Tcb thread)
thread_by_kind (o.Tcb thread) is = (thread, refl)
thread_by_kind _ is = cc

module _ (m : Machine) (chosen : SlotRef → Bool) (id : ObjId) where
  -- what stays is what it was, finalised
  stays_finalised :
      (old new : Object) → object_of m id ≡ Some old → object_of (removed m chosen) id ≡ Some new
      → finalised m (vanishes m chosen) old ≡ new
  stays_finalised old new was is =
      let before = object_was m chosen id new is in
      ap (finalised m (vanishes m chosen)) (same_Some old before.0 (sym was ∙ before.1)) ∙ before.3

  -- a context keeps its core, budget and period
  pub share_stays :
      (old new : Context) → object_of m id ≡ Some (o.Context old) → object_of (removed m chosen) id ≡ Some (o.Context new)
      → new.share ≡ old.share
  share_stays old new was is =
      sym (ap (λ (c : Context). c.share) (same_context _ new (stays_finalised (o.Context old) (o.Context new) was is)))

module _
    (t : Layout) (allowed : EdgeTest) (m : Machine) (chosen : SlotRef → Bool) (sound : IsSound t allowed m)
    (closed : IsSharp t allowed) where
  abbrev after : Machine
  after = removed m chosen

  pub removed_sound : IsSound t allowed (removed m chosen)
  removed_sound = record {
    well_formed = removed_formed m chosen sound.well_formed;
    of_table = removed_of_table t m chosen allowed sound;
    confined = removed_confined t m chosen allowed sound closed.derives_on;
    nodes = removed_nodes t m chosen allowed sound;
    idlers = removed_idlers t allowed m chosen sound;
    borrowers = removed_borrowers t allowed m chosen sound;
  }

  pub removed_keeps :
      (event : Event) (a : ℕ) → MayRemove t allowed a m chosen
      → Keeps t allowed m event a m (removed m chosen)
  removed_keeps event a may = record {
    held = held_of t allowed after removed_sound;
    acts = λ awake id. by_change awake id (removed_alters t allowed a m chosen awake sound closed may id);
    stays = λ id old new was is.
        let like = like_finalised m (vanishes m chosen) old in
        let same = stays_finalised m chosen id old new was is in
        (ap kind_of_object (sym same) ∙ like.kind, ap address_of (sym same) ∙ like.address);
    born = λ id new absent is.
        let before = object_was m chosen id new is in absurd (none-some before.0 (sym absent ∙ before.1));
    grows = let number = next-removed m chosen in omega (arith, number);
    sleeps = λ awake. sleep_on;
    serves = λ awake served. removed_served t allowed m chosen sound served;
    budgets = λ id old new was is. inl (share_stays m chosen id old new was is);
  } where
    sleep_on : OthersSleep t allowed m → OthersSleep t allowed after
    sleep_on others id thread at =
        let was = object_was m chosen id (o.Tcb thread) at in
        let like = like_finalised m (vanishes m chosen) was.0 in
        let tcb = thread_by_kind was.0 (sym like.kind ∙ ap kind_of_object was.3) in
        let there : object_of m id ≡ Some (o.Tcb tcb.0) = was.1 ∙ ap (λ (x : Object). Some x) tcb.1 in
        by_thread tcb.0 there (others id tcb.0 there)
      where
        by_thread :
            (tcb : Tcb) → object_of m id ≡ Some (o.Tcb tcb) → SleepsOrActs t allowed m id tcb
            → SleepsOrActs t allowed after id thread
        by_thread tcb there (inl asleep) =
            inl (shrunk_asleep m after id tcb thread (removed_shrinks m chosen sound.well_formed id (o.Tcb tcb) there) there at asleep)
        by_thread tcb there (inr acts) = inr (λ a labelled. acts a (label_was t m chosen id a labelled))

    by_change :
        (awake : IsAwake t allowed m a) (id : ObjId)
        → IsSame m after id
        ⊎ ((label : ℕ) × (label_of t m id ≡ Some label)
        × (WayToChange allowed awake.acts a label ⊎ WayToShrink allowed awake.acts a label))
        → Acts t allowed awake.acts a m after id
    by_change awake id (inl same) = inl same
    by_change awake id (inr way) =
        let there = labelled_there t m id way.0 way.1 in
        inr (record {
          label = way.0;
          labelled = inl way.1;
          may = elim way.2 [
            | inl changes ↦ inl (record { actor = awake.actor; way = changes })
            | inr shrinks ↦ inr (
              record { actor = awake.actor; way = shrinks },
              removed_shrinks m chosen sound.well_formed id there.0 there.1,
            )
          ];
        })
