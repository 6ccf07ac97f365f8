-- Removal of an object that nothing holds to: the state stays sound, and what contracts see of it is without the object.
use Rattle.std.specs.FinMap as finite
use Rattle.std.{specs.Prelude.{IsSome, None, Option, Some, option_and_then, option_map, slice_get}, proofs.Common.{◌∙◌, ◌≡◌, ◌≢◌, ◌≤◌}}
use Rattle.std.proofs.Common.{Bool, ap, arith, cond, false, inl, inr, refl, subst, sym, true}
use Rattle.base.specs.declared.ids.{ObjId.ObjId, SlotRef.SlotRef}
use Rattle.machine.specs.{declared.object.Object.Object, Changes.{first_waiting, without_object}, Counts.caps_to, Machine.{Machine, cap_of}}
use Rattle.machine.{specs.{Machine.{object_of, same_id}, Objects.{slot_count, thread_count}, Tree.IsAlone}, proofs.FiniteLemmas.by_key}
use Rattle.machine.proofs.{FiniteLemmas.{cond_elsewhere, cond_here}, LookUps.{id_apart, id_total}, ObjectGone.cap_of-without_object}
use Rattle.machine.proofs.ObjectGone.{caps_to-without_object, going-without_object, next-without_object, object_of-without_object}
use Rattle.machine.proofs.ObjectGone.{parent_of-without_object, queue_of-without_object, without_absent, words_of-without_object}
use Rattle.objects.specs.declared.{entry.Entry.Entry, links.{Ends.Ends, Standing.Standing, TreeLinks.TreeLinks}, slots.Slot.Slot}
use Rattle.objects.specs.{declared.state.State.TheInside.Inside, Counts.{counts_in, one_less, one_more}, Entries.{caps_in, entry_of}}
use Rattle.objects.specs.{Entries.slot_at, Family.{AreKin, cap_in, links_at, links_of, parent_in}, Links.{AreQueued, ends_of, queue_in}}
use Rattle.objects.specs.{Links.standing_of, Pairs.AreFilledOrGoing, Queues.{AreQueues, walk}, State.{IsConsistent, IsCounted, IsSound}}
use Rattle.objects.{specs.{State.{IsTallied, machine_of}, Waiting.WaitsNowhere}, proofs.ConsistentLemmas.first_waiting-machine_of}
use Rattle.objects.proofs.{CountLemmas.{counts-without_object, less_one_more}, EntryLemmas.some-none, Families.same_kin}
use Rattle.objects.proofs.{LinkLemmas.stands_nowhere, PairLemmas.paired-without_object, QueueLemmas.cases_id, StateLemmas.Tells}
use Rattle.objects.proofs.StateLemmas.{going-machine_of, next-machine_of, object_at, same_from_tells, tells-machine_of, words_at}
use Rattle.objects.proofs.TreeState.{parent_is}

-- the state without an object
abbrev pub with_removed : Inside → ObjId → Object → Inside
with_removed s id object = record s { store = finite.remove s.store id; counts = one_less s.counts object }

parent_linked : (o : Option Slot) → parent_in o ≡ (links_of o).parent
parent_linked None = refl
parent_linked (Some slot) = refl

first_end : (o : Option Entry) → (ends_of o).first ≡ option_and_then (λ e. e.ends.first) o
first_end None = refl
first_end (Some e) = refl

-- nothing holds to the object: no capability is for it, its slots are empty, nobody waits at it, and it waits nowhere

module _ (s : Inside) (sound : IsSound s) (id : ObjId) (unheld : caps_to (machine_of s) id ≡ 0)
    (hollow : (slot : SlotRef) → slot.holder ≡ id → cap_of (machine_of s) slot ≡ None)
    (alone : (slot : SlotRef) → slot.holder ≡ id → IsAlone (machine_of s) slot)
    (deserted : first_waiting (machine_of s) id ≡ None) (free : WaitsNowhere (machine_of s) id) where
  abbrev m : Machine
  m = machine_of s

  abbrev consistent : IsConsistent s
  consistent = sound.consistent

  abbrev old : ObjId → Option Entry
  old = entry_of s.store

  abbrev new : ObjId → Option Entry
  new = entry_of (finite.remove s.store id)

  gone : (q : ObjId) → new q ≡ cond (same_id q id) None (old q)
  gone = finite.get-remove id_total s.store id

  gone_here : new id ≡ None
  gone_here = gone id ∙ cond_here id_total id_apart id _ _

  gone_other : (q : ObjId) → q ≢ id → new q ≡ old q
  gone_other q apart = gone q ∙ cond_elsewhere id_total id_apart q id _ _ apart

  -- an entry that is there was there before
  there_before : (q : ObjId) (e : Entry) → new q ≡ Some e → old q ≡ Some e
  there_before q e is =
      elim (cases_id q id) [
        | inl same ↦ let none : new q ≡ None = ap new same ∙ gone_here in cc
        | inr apart ↦ sym (gone_other q apart) ∙ is
      ]

  some_before : (q : ObjId) → IsSome (new q) → IsSome (old q)
  some_before q some =
      elim (cases_id q id) [
        | inl same ↦ absurd (some-none (new q) some (ap new same ∙ gone_here))
        | inr apart ↦ subst IsSome (gone_other q apart) some
      ]

  -- a part that reads of the object as of an absent one reads as before
  read_same : {A : Type 0} (read : Option Entry → A) → read (old id) ≡ read None → (q : ObjId) → read (new q) ≡ read (old q)
  read_same read absent q =
      elim (cases_id q id) [
        | inl same ↦ ap (λ k. read (new k)) same ∙ ap read gone_here ∙ sym absent ∙ ap (λ k. read (old k)) (sym same)
        | inr apart ↦ ap read (gone_other q apart)
      ]

  -- it stands in no queue, and has none

  stands : standing_of (old id) ≡ record { at = None; previous = None; next = None }
  stands =
      let at : (standing_of (old id)).at ≡ None =
      stands_nowhere old s.next consistent.queued id (λ q threads is. free q threads ((tells-machine_of s).queues q ∙ is)) in
      let links = consistent.queued.nowhere id at in
      λ i. record { at = at i; previous = links.0 i; next = links.1 i }

  nobody : ends_of (old id) ≡ record { first = None; last = None }
  nobody =
      let first : (ends_of (old id)).first ≡ None =
      first_end (old id) ∙ sym (first_waiting-machine_of s consistent id) ∙ deserted in
      let last = consistent.queued.no_first id first in
      λ i. record { first = first i; last = last i }

  standing_same : ◌≡◌ {A = ObjId → Standing} (λ q. standing_of (new q)) (λ q. standing_of (old q))
  standing_same = λ i q. read_same standing_of stands q i

  ends_same : ◌≡◌ {A = ObjId → Ends} (λ q. ends_of (new q)) (λ q. ends_of (old q))
  ends_same = λ i q. read_same ends_of nobody q i

  queued_after : AreQueued new s.next
  queued_after =
      subst (λ standing. AreQueues (λ q. ends_of (new q)) standing s.next) (sym standing_same)
      (subst (λ ends. AreQueues ends (λ q. standing_of (old q)) s.next) (sym ends_same) consistent.queued)

  -- its slots are in no pair of the tree

  capless : (q : SlotRef) → q.holder ≡ id → cap_in (slot_at old q) ≡ None
  capless q its_own = sym ((tells-machine_of s).caps q) ∙ hollow q its_own

  module _ (q : SlotRef) (its_own : q.holder ≡ id) where
    abbrev links : TreeLinks
    links = links_at old q

    no_parent : links.parent ≡ None
    no_parent = sym (parent_is s consistent q) ∙ (alone q its_own).root

    no_child : links.first ≡ None
    no_child = by_first links.first refl where
      by_first : (o : Option SlotRef) → links.first ≡ o → o ≡ None
      by_first None is = refl
      by_first (Some c) is =
          absurd ((alone q its_own).leaf c (parent_is s consistent c ∙ (consistent.kin.headed q c is).0))

    no_follower : links.next ≡ None
    no_follower = by_next links.next refl where
      by_parent : (b : SlotRef) → (links_at old b).previous ≡ Some q → (o : Option SlotRef) → (links_at old b).parent ≡ o → ⊥
      by_parent b behind None is = let none = consistent.kin.rooted b is in cc
      by_parent b behind (Some p) is = let some = consistent.kin.beside q b p behind is in let none = no_parent in cc

      by_next : (o : Option SlotRef) → links.next ≡ o → o ≡ None
      by_next None is = refl
      by_next (Some b) is = absurd (by_parent b (consistent.kin.onward q b is) (links_at old b).parent refl)

    linkless : links ≡ record { parent = None; first = None; next = None; previous = None }
    linkless =
        let leader = consistent.kin.rooted q no_parent in
        λ i. record { parent = no_parent i; first = no_child i; next = no_follower i; previous = leader i }

  -- a part that reads of each of its slots as of an absent one reads as before
  slots_same :
      {A : Type 0} (read : Option Slot → A) → ((q : SlotRef) → q.holder ≡ id → read (slot_at old q) ≡ read None) → (q : SlotRef)
      → read (slot_at new q) ≡ read (slot_at old q)
  slots_same read absent q =
      let within : Option Entry → Option Slot = option_and_then (λ e. slice_get e.slots q.index) in
      elim (cases_id q.holder id) [
        | inl same ↦ ap (λ o. read (within o)) (ap new same ∙ gone_here) ∙ sym (absent q same)
        | inr apart ↦ ap (λ o. read (within o)) (gone_other q.holder apart)
      ]

  kin_after : AreKin new
  kin_after = same_kin _ _ (slots_same links_of linkless) consistent.kin

  -- the machine is without it

  spread : {A : Type 0} (read : Entry → A) (b : Bool) (o : Option Entry) → option_map read (cond b None o) ≡ cond b None (option_map read o)
  spread read true o = refl
  spread read false o = refl

  queue_after : (q : ObjId) → queue_in s.next new (new q) ≡ cond (same_id q id) None (queue_in s.next old (old q))
  queue_after q =
      by_key id_total id_apart q id _ _ _
      (λ same. ap (λ k. queue_in s.next new (new k)) same ∙ ap (queue_in s.next new) gone_here)
      (λ apart.
      ap (queue_in s.next new) (gone_other q apart)
      ∙ ap (λ standing. option_map (λ e. walk standing s.next e.ends.first) (old q)) standing_same)

  tells_after : Tells s.next (without_object m id) new
  tells_after =
      let tells = tells-machine_of s in
      record {
        objects =
            λ q.
            object_of-without_object m id q ∙ ap (cond (same_id q id) None) (tells.objects q)
            ∙ sym (ap object_at (gone q) ∙ spread (λ e. e.object) (same_id q id) (old q));
        queues = λ q. queue_of-without_object m id q ∙ ap (cond (same_id q id) None) (tells.queues q) ∙ sym (queue_after q);
        words =
            λ q.
            words_of-without_object m id q ∙ ap (cond (same_id q id) None) (tells.words q)
            ∙ sym (ap words_at (gone q) ∙ spread (λ e. e.words) (same_id q id) (old q));
        caps = λ q. cap_of-without_object m id q ∙ tells.caps q ∙ sym (slots_same cap_in capless q);
        parents =
            λ q.
            parent_of-without_object m id q ∙ tells.parents q
            ∙ sym
            (slots_same parent_in (λ slot its_own. parent_linked (slot_at old slot) ∙ no_parent slot its_own) q);
      }

  module _ (object : Object) where
    abbrev after : Inside
    after = with_removed s id object

    pub removed_gives : machine_of after ≡ without_object m id
    removed_gives =
        same_from_tells _ _ _ new (tells-machine_of after) tells_after
        (next-machine_of after ∙ sym (next-without_object m id ∙ next-machine_of s))
        (going-machine_of after ∙ sym (going-without_object m id ∙ going-machine_of s))

    consistent_after : IsConsistent after
    consistent_after =
        record {
          fresh = λ q some. consistent.fresh q (some_before q some);
          bounded = consistent.bounded;
          sized = λ q e is. consistent.sized q e (there_before q e is);
          queued = queued_after;
          kin = kin_after;
        }

    counted_after : object_of m id ≡ Some object → IsCounted after
    counted_after is =
        let few = sound.counted.few in
        record {
          exact =
              ap (λ c. one_less c object) (sound.counted.exact ∙ counts-without_object m id object is)
              ∙ less_one_more (counts_in (without_object m id)) object ∙ ap counts_in (sym removed_gives);
          few =
              record {
                objects = omega (arith, few.objects);
                slots = omega (arith, few.slots);
                threads = omega (arith, few.threads);
              };
        }

    tallied_after : IsTallied after
    tallied_after q =
        read_same caps_in (sound.tallied id ∙ unheld) q ∙ sound.tallied q ∙ sym (caps_to-without_object m id q)
        ∙ ap (λ n. caps_to n q) (sym removed_gives)

    pub sound_removed : object_of m id ≡ Some object → IsSound after
    sound_removed is =
        record {
          consistent = consistent_after;
          counted = counted_after is;
          tallied = tallied_after;
          roomy = let room = sound.roomy in omega (arith, room);
          paired = subst AreFilledOrGoing (sym removed_gives) (paired-without_object m id sound.paired);
        }

-- an object that is there is counted
pub counts_it :
    (s : Inside) → IsSound s → (id : ObjId) (object : Object) → object_of (machine_of s) id ≡ Some object
    → (1 ≤ s.counts.objects) × (slot_count object ≤ s.counts.slots) × (thread_count object ≤ s.counts.threads)
counts_it s sound id object is =
    let all : s.counts ≡ one_more (counts_in (without_object (machine_of s) id)) object =
    sound.counted.exact ∙ counts-without_object (machine_of s) id object is in
    rw all (omega arith, omega arith, omega arith)

-- removing an absent object changes nothing
pub nothing_removed : (s : Inside) (id : ObjId) → object_of (machine_of s) id ≡ None → without_object (machine_of s) id ≡ machine_of s
nothing_removed s id none = by_entry (entry_of s.store id) refl where
  by_entry : (o : Option Entry) → entry_of s.store id ≡ o → without_object (machine_of s) id ≡ machine_of s
  by_entry None is =
      without_absent (machine_of s) id none ((tells-machine_of s).queues id ∙ ap (queue_in s.next (entry_of s.store)) is)
      ((tells-machine_of s).words id ∙ ap words_at is)
  by_entry (Some e) is =
      let some : object_of (machine_of s) id ≡ Some e.object = (tells-machine_of s).objects id ∙ ap object_at is in cc
