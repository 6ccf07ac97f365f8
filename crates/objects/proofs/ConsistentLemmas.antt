-- Changes of a state keep it consistent, and change the machine that contracts see as the machine's own changes do.
use Rattle.std.specs.FinMap as finite
use Rattle.std.specs.{List.{AllByRecursion, fold}, Prelude.{Contains, IfSome, IsSome, IsTrue, None, Option, Some, filter, is_some, not}}
use Rattle.std.{specs.Prelude.{option_and_then, option_map, slice_get, slice_set}, proofs.Common.{[], ℕ, ◌++◌, ◌+◌, ◌<◌, ◌^◌, ◌∙◌, ◌∷◌}}
use Rattle.std.proofs.Common.{◌≡◌, ◌≢◌, ◌≤◌, Bool, List, ap, arith, cond, false, inl, inr, length, map, refl, subst, sym, true}
use Rattle.std.proofs.lemmas.{Bool.{false≢true, ltb-true}, List.length-replicate, Option.same_Some}
use Rattle.base.specs.declared.ids.{ObjId.ObjId, SlotRef.SlotRef}
use Rattle.machine.specs.{declared.object.Object.Object, Changes.{first_waiting, with_waiting, with_word, with_words, without_waiting}}
use Rattle.machine.specs.Machine.{Machine, empty_machine, has_slot, id_cmp, object_of, queue_of, same_id, with_new, with_object, with_queue}
use Rattle.machine.{specs.{Machine.words_of, Objects.slot_count}, proofs.FiniteLemmas.{by_key, cond_elsewhere, cond_here, same_from_tie}}
use Rattle.machine.proofs.LookUps.{cap_of-empty, id_apart, id_total, object_of-empty, parent_of-empty, queue_of-empty, words_of-empty}
use Rattle.objects.specs.declared.{entry.Entry.Entry, links.Standing.Standing, slots.Slot.Slot, state.State.TheInside.Inside}
use Rattle.objects.specs.{Counts.one_more, Entries.{Entries, caps_in, empty_slot, entry_of, new_entry, replace_in, set_caps_in}}
use Rattle.objects.specs.{Entries.{set_word_in, slot_at, with_entry, with_more}, Family.{AreKin, links_of}, Links.{AreQueued, ends_of}}
use Rattle.objects.specs.{Links.{pushed, queue_in, quitted, standing_of}, Queues.{AreQueues, walk}, Radices.HasRadix, State.IsConsistent}
use Rattle.objects.{specs.{State.{IsSized, machine_of}, Waiting.{WaitsNowhere, WaitsThere}}, proofs.ChangeLemmas.{added_read, changed_here}}
use Rattle.objects.proofs.ChangeLemmas.{changed_other, links, links_kept, part_kept, reading_kept, rest, slots_kept, tells-caps, tells-new}
use Rattle.objects.proofs.{ChangeLemmas.{tells-queue, tells-replace, tells-same, tells-word}, EntryLemmas.{entry_of-with_entry, some-none}}
use Rattle.objects.proofs.{Families.{no_kin, same_kin}, LinkLemmas.{Requeues, pushed_queue, pushed_requeues, quitted_queue}}
use Rattle.objects.proofs.{LinkLemmas.{quitted_requeues, stands_nowhere}, QueueLemmas.{cases_id, longer_walk, more_numbers, walk_first}}
use Rattle.objects.proofs.{QueueLemmas.{walk_none, walk_once}, Quitting.on_walk_waits, StateLemmas.{Tells, going-machine_of}}
use Rattle.objects.proofs.StateLemmas.{next-machine_of, object_at, present_kept, same_from_tells, tells-machine_of, words_at}

-- a state stays consistent if slots are as they were
same_slots :
    (old new : ObjId → Option Entry) → ((q : SlotRef) → slot_at new q ≡ slot_at old q) → AreKin old → AreKin new
same_slots old new same = same_kin old new (λ q. ap links_of (same q))

-- the state with the entry of one object changed
abbrev pub with_changed : Inside → ObjId → (Entry → Entry) → Inside
with_changed s id change = record s { store = with_entry s.store id change }

pub IsConsistent-changed :
    (s : Inside) → IsConsistent s → (id : ObjId) (change : Entry → Entry)
    → ((e : Entry) → entry_of s.store id ≡ Some e → IsSized e → IsSized (change e))
    → ((e : Entry) → links (change e) ≡ links e) → ((e : Entry) → (change e).slots ≡ e.slots)
    → IsConsistent (with_changed s id change)
IsConsistent-changed s consistent id change keeps linked slots =
    let changed = entry_of-with_entry s.store id change in
    record {
      fresh =
          λ q some.
          consistent.fresh q (present_kept links _ _ (sym (part_kept _ _ id change changed links linked q)) some);
      bounded = consistent.bounded;
      sized = λ q entry is. elim (cases_id q id) [
        | inl same ↦ sized_here q entry same (entry_of s.store id) refl is
        | inr differs ↦ consistent.sized q entry (sym (changed_other _ _ id change changed q differs) ∙ is)
      ];
      queued = links_kept _ _ (part_kept _ _ id change changed links linked) s.next consistent.queued;
      kin =
          same_slots _ _
          (λ q. reading_kept _ _ id change changed (λ e. slice_get e.slots q.index) (λ e. ap (λ l. slice_get l q.index) (slots e)) q.holder)
          consistent.kin;
    }
  where
    sized_here :
        (q : ObjId) (entry : Entry) → q ≡ id → (o : Option Entry) → entry_of s.store id ≡ o
        → entry_of (with_entry s.store id change) q ≡ Some entry → IsSized entry
    sized_here q entry same None was is =
        let now : entry_of (with_entry s.store id change) id ≡ None =
        entry_of-with_entry s.store id change id ∙ cond_here id_total id_apart id _ _
        ∙ ap (option_map change) was in
        cc
    sized_here q entry same (Some e) was is =
        let now : entry_of (with_entry s.store id change) id ≡ Some (change e) =
        changed_here _ _ id change (entry_of-with_entry s.store id change) e was in
        let found : Some (change e) ≡ Some entry =
        sym now ∙ ap (entry_of (with_entry s.store id change)) (sym same) ∙ is in
        subst IsSized (same_Some (change e) entry found) (keeps e was (consistent.sized id e was))

-- the state with its links changed
pub IsConsistent-requeued :
    (s : Inside) → IsConsistent s → (entries : Entries) (id : ObjId)
    → Requeues (entry_of s.store) (entry_of entries) s.next id
    → IsConsistent (record s { store = entries })
IsConsistent-requeued s consistent entries id requeues =
    record {
      fresh = λ q some. consistent.fresh q (present_kept rest _ _ (sym (requeues.same q)) some);
      bounded = consistent.bounded;
      sized = λ q entry is. by_entry q entry is (entry_of s.store q) refl;
      queued = requeues.queued;
      kin = same_slots _ _ (slots_kept _ _ requeues.same) consistent.kin;
    }
  where
    by_entry :
        (q : ObjId) (entry : Entry) → entry_of entries q ≡ Some entry → (o : Option Entry)
        → entry_of s.store q ≡ o → IsSized entry
    by_entry q entry is None was =
        let none : Some (rest entry) ≡ None =
        ap (option_map rest) (sym is) ∙ requeues.same q ∙ ap (option_map rest) was in cc
    by_entry q entry is (Some e) was =
        let same : rest e ≡ rest entry =
        same_Some (rest e) (rest entry) (ap (option_map rest) (sym was) ∙ sym (requeues.same q) ∙ ap (option_map rest) is) in
        subst (λ r. (length r.1 ≡ slot_count r.0) × HasRadix r.0) same (consistent.sized q e was)

-- the number of capabilities that an entry counts is no part of the machine
pub caps_give : (s : Inside) (id : ObjId) (caps : ℕ) → machine_of (with_changed s id (set_caps_in caps)) ≡ machine_of s
caps_give s id caps =
    let s' : Inside = with_changed s id (set_caps_in caps) in
    same_from_tells _ _ _ (entry_of s'.store) (tells-machine_of s')
    (tells-caps s.next (machine_of s) (entry_of s.store) (entry_of s'.store) (tells-machine_of s) id caps
    (entry_of-with_entry s.store id (set_caps_in caps)))
    (next-machine_of s' ∙ sym (next-machine_of s)) (going-machine_of s' ∙ sym (going-machine_of s))

-- a slot that the machine has is a slot of an entry
pub found_slot :
    (s : Inside) → IsConsistent s → (slot : SlotRef) → IsTrue (has_slot (machine_of s) slot)
    → (e : Entry) × (entry_of s.store slot.holder ≡ Some e) × (slot.index < length e.slots)
found_slot s consistent slot has = by_entry (entry_of s.store slot.holder) refl where
  by_entry :
      (o : Option Entry) → entry_of s.store slot.holder ≡ o
      → (e : Entry) × (entry_of s.store slot.holder ≡ Some e) × (slot.index < length e.slots)
  by_entry None is =
      let none : object_of (machine_of s) slot.holder ≡ None = (tells-machine_of s).objects slot.holder ∙ ap object_at is in
      absurd (false≢true (rw none at has))
  by_entry (Some e) is =
      let some : object_of (machine_of s) slot.holder ≡ Some e.object =
      (tells-machine_of s).objects slot.holder ∙ ap object_at is in
      let within : slot.index < slot_count e.object = ltb-true slot.index (slot_count e.object) (rw some at has) in
      let sized : length e.slots ≡ slot_count e.object = (consistent.sized slot.holder e is).0 in
      (e, is, omega arith)

-- the thread that waits first

pub first_waiting-machine_of :
    (s : Inside) → IsConsistent s → (id : ObjId)
    → first_waiting (machine_of s) id ≡ option_and_then (λ e. e.ends.first) (entry_of s.store id)
unfolding first_waiting
first_waiting-machine_of s consistent id =
    ap (option_and_then (λ threads. slice_get threads 0)) ((tells-machine_of s).queues id)
    ∙ by_entry (entry_of s.store id) refl where
      by_entry :
          (o : Option Entry) → entry_of s.store id ≡ o
          → option_and_then (λ threads. slice_get threads 0) (queue_in s.next (entry_of s.store) o)
          ≡ option_and_then (λ e. e.ends.first) o
      by_entry None is = refl
      by_entry (Some e) is =
          walk_first _ _ s.next consistent.queued id e.ends.first (ap (λ o. (ends_of o).first) is)

-- a state with no entries

tells-empty : Tells 0 empty_machine (λ _. None)
tells-empty =
    record {
      objects = object_of-empty;
      queues = queue_of-empty;
      words = words_of-empty;
      caps = cap_of-empty;
      parents = parent_of-empty;
    }

next-empty : empty_machine.next ≡ 0
unfolding empty_machine
next-empty = refl

going-empty : empty_machine.going ≡ []
unfolding empty_machine
going-empty = refl

pub none_of : (s : Inside) → s.store ≡ finite.empty → (q : ObjId) → entry_of s.store q ≡ None
none_of s none q = ap (λ (m : Entries). finite.get m q) none ∙ finite.get-empty id_cmp q

pub empty_gives : (s : Inside) → s.store ≡ finite.empty → s.next ≡ 0 → s.going.items ≡ [] → machine_of s ≡ empty_machine
empty_gives s none next going =
    same_from_tells _ _ _ (entry_of s.store) (tells-machine_of s)
    (subst (λ n. Tells n empty_machine (entry_of s.store)) (sym next)
    (tells-same 0 empty_machine (λ _. None) (entry_of s.store) tells-empty (none_of s none)))
    (next-machine_of s ∙ next ∙ sym next-empty) (going-machine_of s ∙ going ∙ sym going-empty)

-- nobody waits in a state without entries
no_queues : AreQueued (λ _. None) 0
no_queues =
    record {
      rank = λ a. a.0;
      one_each = λ a b same. ap (λ n. record { 0 = n }) same;
      ranked = λ a less. less;
      unranked = λ a more. refl;
      known = λ a q at. cc;
      later = λ a b is. cc;
      beside = λ a b is. cc;
      onward = λ a b is. cc;
      back = λ a b is. cc;
      first_is = λ q a is. cc;
      is_first = λ q a at is. cc;
      last_is = λ q a is. cc;
      is_last = λ q a at is. cc;
      no_first = λ q is. refl;
      no_last = λ q is. refl;
      nowhere = λ a is. (refl, refl);
    }

empty_queued : (s : Inside) → s.store ≡ finite.empty → s.next ≡ 0 → AreQueued (entry_of s.store) s.next
empty_queued s none next =
    links_kept (λ _. None) (entry_of s.store) (λ q. ap (option_map links) (none_of s none q)) s.next
    (subst (AreQueued (λ _. None)) (sym next) no_queues)

pub IsConsistent-empty : (s : Inside) → s.store ≡ finite.empty → s.next ≡ 0 → IsConsistent s
IsConsistent-empty s none next =
    record {
      fresh = λ id some. absurd (some-none (entry_of s.store id) some (none_of s none id));
      bounded = omega arith;
      sized = λ id entry is. (let absent = none_of s none id in cc);
      queued = empty_queued s none next;
      kin = no_kin _ (λ q. ap (λ o. links_of (option_and_then (λ e. slice_get e.slots q.index) o)) (none_of s none q.holder));
    }

-- a new object

pub vacant_number : (s : Inside) → IsConsistent s → entry_of s.store (record { 0 = s.next }) ≡ None
vacant_number s consistent = by_entry (entry_of s.store (record { 0 = s.next })) refl where
  by_entry : (o : Option Entry) → entry_of s.store (record { 0 = s.next }) ≡ o → o ≡ None
  by_entry None is = refl
  by_entry (Some e) is =
      let below : s.next < s.next = consistent.fresh (record { 0 = s.next }) (ap is_some is) in absurd (omega arith)

-- a new object changes no queue

module _ (old new : ObjId → Option Entry) (numbers : ℕ) (id : ObjId) (object : Object) (vacant : old id ≡ None)
    (added : (q : ObjId) → new q ≡ cond (same_id q id) (Some (new_entry object)) (old q)) where
  added_here : new id ≡ Some (new_entry object)
  added_here = added id ∙ cond_here id_total id_apart id _ _

  added_other : (q : ObjId) → q ≢ id → new q ≡ old q
  added_other q apart = added q ∙ cond_elsewhere id_total id_apart q id _ _ apart

  ends_same : (q : ObjId) → ends_of (new q) ≡ ends_of (old q)
  ends_same q =
      elim (cases_id q id) [
        | inl same ↦ ap (λ k. ends_of (new k)) same ∙ ap ends_of added_here ∙ ap ends_of (sym vacant) ∙ ap (λ k. ends_of (old k)) (sym same)
        | inr apart ↦ ap ends_of (added_other q apart)
      ]

  standing_same : (q : ObjId) → standing_of (new q) ≡ standing_of (old q)
  standing_same q =
      elim (cases_id q id) [
        | inl same ↦
            ap (λ k. standing_of (new k)) same ∙ ap standing_of added_here ∙ ap standing_of (sym vacant)
            ∙ ap (λ k. standing_of (old k)) (sym same)
        | inr apart ↦ ap standing_of (added_other q apart)
      ]

  pub caps_same : (q : ObjId) → caps_in (new q) ≡ caps_in (old q)
  caps_same q =
      elim (cases_id q id) [
        | inl same ↦ ap (λ k. caps_in (new k)) same ∙ ap caps_in added_here ∙ ap caps_in (sym vacant) ∙ ap (λ k. caps_in (old k)) (sym same)
        | inr apart ↦ ap caps_in (added_other q apart)
      ]

  standing_as_before : ◌≡◌ {A = ObjId → Standing} (λ q. standing_of (new q)) (λ q. standing_of (old q))
  standing_as_before = λ i q. standing_same q i

  new_queued : AreQueued old numbers → AreQueued new (numbers + 1)
  new_queued queued =
      subst (λ standing. AreQueues (λ q. ends_of (new q)) standing (numbers + 1)) (λ i q. sym (standing_same q) i)
      (subst (λ ends. AreQueues ends (λ q. standing_of (old q)) (numbers + 1)) (λ i q. sym (ends_same q) i)
      (more_numbers _ _ numbers queued))

  new_queues :
      AreQueued old numbers → (q : ObjId)
      → queue_in (numbers + 1) new (new q) ≡ cond (same_id q id) (Some []) (queue_in numbers old (old q))
  new_queues queued q =
      by_key id_total id_apart q id _ _ _
      (λ same.
      ap (λ k. queue_in (numbers + 1) new (new k)) same ∙ ap (queue_in (numbers + 1) new) added_here
      ∙ ap Some (walk_none (λ a. standing_of (new a)) (numbers + 1)))
      (λ apart. ap (queue_in (numbers + 1) new) (added_other q apart) ∙ by_entry (old q) refl)
    where
      by_entry : (o : Option Entry) → old q ≡ o → queue_in (numbers + 1) new o ≡ queue_in numbers old o
      by_entry None is = refl
      by_entry (Some e) is =
          ap Some
          (ap (λ standing. walk standing (numbers + 1) e.ends.first) standing_as_before
          ∙ subst (λ o. walk (λ a. standing_of (old a)) (numbers + 1) (ends_of o).first
          ≡ walk (λ a. standing_of (old a)) numbers (ends_of o).first) is
          (longer_walk (λ a. ends_of (old a)) (λ a. standing_of (old a)) numbers queued q))

next-with_new : (m : Machine) (object : Object) → (with_new m object).next ≡ m.next + 1
unfolding with_new
next-with_new m object = refl

going-with_new : (m : Machine) (object : Object) → (with_new m object).going ≡ m.going
unfolding with_new
going-with_new m object = refl

-- the state with a new object
abbrev pub with_added : Inside → Object → Inside
with_added s object =
    record {
      store = finite.insert s.store (record { 0 = s.next }) (new_entry object);
      next = s.next + 1;
      counts = one_more s.counts object;
      going = s.going;
    }

module _ (s : Inside) (consistent : IsConsistent s) (object : Object) where
  abbrev id : ObjId
  id = record { 0 = s.next }

  abbrev with_it : ObjId → Option Entry
  with_it = entry_of (with_added s object).store

  added : (q : ObjId) → with_it q ≡ cond (same_id q id) (Some (new_entry object)) (entry_of s.store q)
  added = finite.get-insert id_total s.store id (new_entry object)

  vacant : entry_of s.store id ≡ None
  vacant = vacant_number s consistent

  read_before :
      {A : Type 0} (read : Option Slot → A) → read (Some empty_slot) ≡ read None → (q : SlotRef)
      → read (slot_at with_it q) ≡ read (slot_at (entry_of s.store) q)
  read_before read none = added_read (entry_of s.store) with_it object id vacant added read none

  fresh_after : (q : ObjId) (tie : Bool) → same_id q id ≡ tie → IsSome (cond tie (Some (new_entry object)) (entry_of s.store q)) → q.0 < s.next + 1
  fresh_after q true is some =
      let same : q.0 ≡ s.next = ap (λ (k : ObjId). k.0) (same_from_tie id_total id_apart q id is) in omega arith
  fresh_after q false is some = let below : q.0 < s.next = consistent.fresh q some in omega arith

  sized_after :
      HasRadix object → (q : ObjId) (entry : Entry) (tie : Bool)
      → cond tie (Some (new_entry object)) (entry_of s.store q) ≡ Some entry → IsSized entry
  sized_after radix q entry true is =
      subst IsSized (same_Some (new_entry object) entry is) (length-replicate (slot_count object) _, radix)
  sized_after radix q entry false is = consistent.sized q entry is

  pub IsConsistent-added : s.next < 2 ^ 48 → HasRadix object → IsConsistent (with_added s object)
  IsConsistent-added room radix =
      record {
        fresh = λ q some. fresh_after q (same_id q id) refl (subst IsSome (added q) some);
        bounded = omega arith;
        sized = λ q entry is. sized_after radix q entry (same_id q id) (sym (added q) ∙ is);
        queued = new_queued (entry_of s.store) with_it s.next id object vacant added consistent.queued;
        kin = same_kin _ _ (read_before links_of refl) consistent.kin;
      }

  pub added_gives : machine_of (with_added s object) ≡ with_new (machine_of s) object
  added_gives =
      same_from_tells _ _ _ with_it (tells-machine_of (with_added s object))
      (tells-new s.next (machine_of s) (entry_of s.store) with_it (tells-machine_of s) object
      (rw (next-machine_of s) added)
      (rw (next-machine_of s) vacant)
      (rw (next-machine_of s) (new_queues (entry_of s.store) with_it s.next id object vacant added consistent.queued)))
      (next-machine_of (with_added s object) ∙ sym (next-with_new (machine_of s) object ∙ ap (λ n. n + 1) (next-machine_of s)))
      (going-machine_of (with_added s object) ∙ sym (going-with_new (machine_of s) object ∙ going-machine_of s))

-- objects are added one after another

abbrev pub with_all_added : Inside → List Object → Inside
with_all_added s [] = s
with_all_added s (object ∷ objects) = with_all_added (with_added s object) objects

-- all of them are the next entries
pub with_all_is :
    (s : Inside) (objects : List Object) (next : ℕ) → next ≡ s.next + length objects
    → record {
      store = with_more s.store s.next (map new_entry objects);
      next = next;
      counts = fold one_more s.counts objects;
      going = s.going;
    } ≡ with_all_added s objects
with_all_is s [] next same = ap (λ n. record s { next = n }) (let ends : next ≡ s.next = omega (arith, same) in ends)
with_all_is s (object ∷ objects) next same =
    with_all_is (with_added s object) objects next (omega (arith, same))

all_added :
    (s : Inside) → IsConsistent s → (objects : List Object) → s.next + length objects ≤ 2 ^ 48
    → AllByRecursion HasRadix objects
    → IsConsistent (with_all_added s objects) × (machine_of (with_all_added s objects) ≡ fold with_new (machine_of s) objects)
all_added s consistent [] room radices = (consistent, refl)
all_added s consistent (object ∷ objects) room radices =
    let rest =
    all_added (with_added s object) (IsConsistent-added s consistent object (omega arith) radices.0) objects (omega arith)
    radices.1 in
    (rest.0, rest.1 ∙ ap (λ m. fold with_new m objects) (added_gives s consistent object))

module _ (s : Inside) (consistent : IsConsistent s) (objects : List Object) (room : s.next + length objects ≤ 2 ^ 48)
    (radices : AllByRecursion HasRadix objects) where
  abbrev pub after : Inside
  after =
      record {
        store = with_more s.store s.next (map new_entry objects);
        next = s.next + length objects;
        counts = fold one_more s.counts objects;
        going = s.going;
      }

  pub IsConsistent-all_added : IsConsistent after
  IsConsistent-all_added =
      subst IsConsistent (sym (with_all_is s objects _ refl)) (all_added s consistent objects room radices).0

  pub all_added_gives : machine_of after ≡ fold with_new (machine_of s) objects
  all_added_gives = ap machine_of (with_all_is s objects _ refl) ∙ (all_added s consistent objects room radices).1

-- each object that the machine has is an entry's, so a CNode has a radix

pub HasRadix-machine_of :
    (s : Inside) → IsConsistent s → (id : ObjId) (object : Object) → object_of (machine_of s) id ≡ Some object → HasRadix object
HasRadix-machine_of s consistent id object present = by_entry (entry_of s.store id) refl where
  by_entry : (o : Option Entry) → entry_of s.store id ≡ o → HasRadix object
  by_entry None is = let none : object_of (machine_of s) id ≡ None = (tells-machine_of s).objects id ∙ ap object_at is in cc
  by_entry (Some e) is =
      let some : object_of (machine_of s) id ≡ Some e.object = (tells-machine_of s).objects id ∙ ap object_at is in
      subst HasRadix (same_Some e.object object (sym some ∙ present)) (consistent.sized id e is).1

-- an object's content is set

-- each object that the machine has has an entry
found_entry :
    (s : Inside) (id : ObjId) → IsSome (object_of (machine_of s) id) → (e : Entry) × (entry_of s.store id ≡ Some e)
found_entry s id some = by_entry (entry_of s.store id) refl where
  by_entry : (o : Option Entry) → entry_of s.store id ≡ o → (e : Entry) × (entry_of s.store id ≡ Some e)
  by_entry None is = absurd (some-none (object_of (machine_of s) id) some ((tells-machine_of s).objects id ∙ ap object_at is))
  by_entry (Some e) is = (e, is)

pub found_there : (s : Inside) (id : ObjId) → IsSome (object_of (machine_of s) id) → IsSome (entry_of s.store id)
found_there s id some = ap is_some (found_entry s id some).1

pub IsConsistent-replace :
    (s : Inside) → IsConsistent s → (id : ObjId) (object : Object) → HasRadix object
    → IfSome (object_of (machine_of s) id) (λ old. slot_count object ≡ slot_count old)
    → IsConsistent (with_changed s id (replace_in object))
IsConsistent-replace s consistent id object radix same =
    IsConsistent-changed s consistent id (replace_in object) (λ e is sized.
    let found : object_of (machine_of s) id ≡ Some e.object = (tells-machine_of s).objects id ∙ ap object_at is in
    let count : slot_count object ≡ slot_count e.object = rw found at same in
    (sized.0 ∙ sym count, radix)) (λ e. refl) (λ e. refl)

next-with_object : (m : Machine) (id : ObjId) (object : Object) → (with_object m id object).next ≡ m.next
unfolding with_object
next-with_object m id object = refl

going-with_object : (m : Machine) (id : ObjId) (object : Object) → (with_object m id object).going ≡ m.going
unfolding with_object
going-with_object m id object = refl

pub replace_gives :
    (s : Inside) → IsConsistent s → (id : ObjId) (object : Object) → IsSome (object_of (machine_of s) id)
    → machine_of (with_changed s id (replace_in object)) ≡ with_object (machine_of s) id object
replace_gives s consistent id object some =
    let found = found_entry s id some in
    let s' : Inside = with_changed s id (replace_in object) in
    same_from_tells _ _ _ (entry_of s'.store) (tells-machine_of s')
    (tells-replace s.next (machine_of s) (entry_of s.store) (entry_of s'.store) (tells-machine_of s) id object
    (entry_of-with_entry s.store id (replace_in object)) found.0 found.1)
    (next-machine_of s' ∙ sym (next-with_object (machine_of s) id object ∙ next-machine_of s))
    (going-machine_of s' ∙ sym (going-with_object (machine_of s) id object ∙ going-machine_of s))

-- a word is read, or set

pub word-machine_of :
    (s : Inside) (id : ObjId) (index : ℕ)
    → option_and_then (λ words. slice_get words index) (words_of (machine_of s) id)
    ≡ option_and_then (λ e. slice_get e.words index) (entry_of s.store id)
word-machine_of s id index =
    ap (option_and_then (λ words. slice_get words index)) ((tells-machine_of s).words id) ∙ by_entry (entry_of s.store id)
  where
    by_entry :
        (o : Option Entry)
        → option_and_then (λ words. slice_get words index) (words_at o) ≡ option_and_then (λ e. slice_get e.words index) o
    by_entry None = refl
    by_entry (Some e) = refl

next-with_words : (m : Machine) (id : ObjId) (words : List ℕ) → (with_words m id words).next ≡ m.next
unfolding with_words
next-with_words m id words = refl

going-with_words : (m : Machine) (id : ObjId) (words : List ℕ) → (with_words m id words).going ≡ m.going
unfolding with_words
going-with_words m id words = refl

word_none : (m : Machine) (id : ObjId) (index word : ℕ) → words_of m id ≡ None → with_word m id index word ≡ m
unfolding with_word
word_none m id index word e = rw e

word_some :
    (m : Machine) (id : ObjId) (index word : ℕ) (words : List ℕ) → words_of m id ≡ Some words
    → with_word m id index word ≡ with_words m id (slice_set words index word)
unfolding with_word
word_some m id index word words e = rw e

pub word_gives :
    (s : Inside) (id : ObjId) (index word : ℕ)
    → machine_of (with_changed s id (set_word_in index word)) ≡ with_word (machine_of s) id index word
word_gives s id index word = by_entry (entry_of s.store id) refl where
  s' : Inside
  s' = with_changed s id (set_word_in index word)

  by_entry : (o : Option Entry) → entry_of s.store id ≡ o → machine_of s' ≡ with_word (machine_of s) id index word
  by_entry None is = rw is (sym (word_none (machine_of s) id index word ((tells-machine_of s).words id ∙ ap words_at is)))
  by_entry (Some e) is =
      let m' : Machine = with_words (machine_of s) id (slice_set e.words index word) in
      same_from_tells _ _ m' (entry_of s'.store) (tells-machine_of s')
      (tells-word s.next (machine_of s) (entry_of s.store) (entry_of s'.store) (tells-machine_of s) id index word
      (entry_of-with_entry s.store id (set_word_in index word)) e is)
      (next-machine_of s' ∙ sym (next-with_words (machine_of s) id _ ∙ next-machine_of s))
      (going-machine_of s' ∙ sym (going-with_words (machine_of s) id _ ∙ going-machine_of s))
      ∙ sym (word_some (machine_of s) id index word e.words ((tells-machine_of s).words id ∙ ap words_at is))

-- a thread comes to wait, or leaves

next-with_queue : (m : Machine) (id : ObjId) (threads : List ObjId) → (with_queue m id threads).next ≡ m.next
unfolding with_queue
next-with_queue m id threads = refl

going-with_queue : (m : Machine) (id : ObjId) (threads : List ObjId) → (with_queue m id threads).going ≡ m.going
unfolding with_queue
going-with_queue m id threads = refl

module _ (s : Inside) (consistent : IsConsistent s) (id : ObjId) where
  abbrev entry : ObjId → Option Entry
  entry = entry_of s.store

  -- the machine where one queue is another
  queue_gives :
      (entries : Entries) (queue : List ObjId) → Requeues entry (entry_of entries) s.next id
      → queue_in s.next (entry_of entries) (entry_of entries id) ≡ Some queue
      → machine_of (record s { store = entries }) ≡ with_queue (machine_of s) id queue
  queue_gives entries queue requeues here =
      let s' : Inside = record s { store = entries } in
      same_from_tells _ _ _ (entry_of entries) (tells-machine_of s')
      (tells-queue s.next (machine_of s) entry (entry_of entries) (tells-machine_of s) id queue requeues.same here
      requeues.others)
      (next-machine_of s' ∙ sym (next-with_queue (machine_of s) id queue ∙ next-machine_of s))
      (going-machine_of s' ∙ sym (going-with_queue (machine_of s) id queue ∙ going-machine_of s))

  waiting_none : (m : Machine) (thread : ObjId) → queue_of m id ≡ None → with_waiting m id thread ≡ m
  unfolding with_waiting
  waiting_none m thread e = rw e

  waiting_some :
      (m : Machine) (thread : ObjId) (threads : List ObjId) → queue_of m id ≡ Some threads
      → with_waiting m id thread ≡ with_queue m id (threads ++ thread ∷ [])
  unfolding with_waiting
  waiting_some m thread threads e = rw e

  -- a thread that is there, and waits nowhere

  module _ (thread : ObjId) (present : IsSome (object_of (machine_of s) thread)) (free : WaitsNowhere (machine_of s) thread) where
    thread_there : IsSome (entry thread)
    thread_there = found_there s thread present

    thread_known : thread.0 < s.next
    thread_known = consistent.fresh thread thread_there

    thread_free : (standing_of (entry thread)).at ≡ None
    thread_free =
        stands_nowhere entry s.next consistent.queued thread
        (λ q threads is. free q threads ((tells-machine_of s).queues q ∙ is))

    pub IsConsistent-pushed :
        IsConsistent (record s { store = pushed s.store id thread (option_map (λ e. e.ends) (entry id)) })
    IsConsistent-pushed = by_entry (entry id) refl where
      by_entry :
          (o : Option Entry) → entry id ≡ o
          → IsConsistent (record s { store = pushed s.store id thread (option_map (λ e. e.ends) o) })
      by_entry None is = consistent
      by_entry (Some e) is =
          IsConsistent-requeued s consistent (pushed s.store id thread (Some e.ends)) id
          (pushed_requeues s.store s.next id thread consistent.queued e is thread_there thread_known thread_free)

    pub push_gives :
        machine_of (record s { store = pushed s.store id thread (option_map (λ e. e.ends) (entry id)) })
        ≡ with_waiting (machine_of s) id thread
    push_gives = by_entry (entry id) refl where
      by_entry :
          (o : Option Entry) → entry id ≡ o
          → machine_of (record s { store = pushed s.store id thread (option_map (λ e. e.ends) o) })
          ≡ with_waiting (machine_of s) id thread
      by_entry None is =
          sym
          (waiting_none (machine_of s) thread
          ((tells-machine_of s).queues id ∙ ap (queue_in s.next entry) is))
      by_entry (Some e) is =
          queue_gives (pushed s.store id thread (Some e.ends)) _
          (pushed_requeues s.store s.next id thread consistent.queued e is thread_there thread_known thread_free)
          (pushed_queue s.store s.next id thread consistent.queued e is thread_there thread_known thread_free)
          ∙ sym
          (waiting_some (machine_of s) thread _ ((tells-machine_of s).queues id ∙ ap (queue_in s.next entry) is))

  -- the thread that waits first waits once
  pub first_once :
      (thread : ObjId) (others : List ObjId) → queue_of (machine_of s) id ≡ Some (thread ∷ others) → ¬ (Contains others thread)
  first_once thread others waited = by_entry (entry id) (sym ((tells-machine_of s).queues id) ∙ waited) where
    by_entry : (o : Option Entry) → queue_in s.next entry o ≡ Some (thread ∷ others) → ¬ (Contains others thread)
    by_entry None is there = cc
    by_entry (Some e) is there =
        walk_once (λ q. ends_of (entry q)) (λ t. standing_of (entry t)) s.next consistent.queued s.next e.ends.first thread others
        (same_Some _ _ is) there

  waiting_less :
      (m : Machine) (thread : ObjId) (threads : List ObjId) → queue_of m id ≡ Some threads
      → without_waiting m id thread ≡ with_queue m id (filter (λ other. not (same_id other thread)) threads)
  unfolding without_waiting
  waiting_less m thread threads e = rw e

  -- a thread that waits there

  module _ (thread : ObjId) (waits : WaitsThere (machine_of s) id thread) where
    waits_here : (e : Entry) → entry id ≡ Some e → (standing_of (entry thread)).at ≡ Some id
    waits_here e is =
        let listed : Some (walk (λ t. standing_of (entry t)) s.next e.ends.first) ≡ Some waits.0 =
        sym ((tells-machine_of s).queues id ∙ ap (queue_in s.next entry) is) ∙ waits.1 in
        on_walk_waits (λ q. ends_of (entry q)) (λ t. standing_of (entry t)) s.next consistent.queued id s.next e.ends.first
        (λ a first. (consistent.queued.first_is id a (ap (λ o. (ends_of o).first) is ∙ first)).0) thread
        (subst (λ threads. Contains threads thread) (sym (same_Some _ _ listed)) waits.2)

    pub IsConsistent-quitted :
        IsConsistent (record s { store = quitted s.store id thread (option_map (λ e. e.ends) (entry id)) })
    IsConsistent-quitted = by_entry (entry id) refl where
      by_entry :
          (o : Option Entry) → entry id ≡ o
          → IsConsistent (record s { store = quitted s.store id thread (option_map (λ e. e.ends) o) })
      by_entry None is = consistent
      by_entry (Some e) is =
          IsConsistent-requeued s consistent (quitted s.store id thread (Some e.ends)) id
          (quitted_requeues s.store s.next id thread consistent.queued e is (waits_here e is))

    pub quit_gives :
        machine_of (record s { store = quitted s.store id thread (option_map (λ e. e.ends) (entry id)) })
        ≡ without_waiting (machine_of s) id thread
    quit_gives = by_entry (entry id) refl where
      by_entry :
          (o : Option Entry) → entry id ≡ o
          → machine_of (record s { store = quitted s.store id thread (option_map (λ e. e.ends) o) })
          ≡ without_waiting (machine_of s) id thread
      by_entry None is =
          let none : None ≡ Some waits.0 = sym ((tells-machine_of s).queues id ∙ ap (queue_in s.next entry) is) ∙ waits.1 in cc
      by_entry (Some e) is =
          queue_gives (quitted s.store id thread (Some e.ends)) _
          (quitted_requeues s.store s.next id thread consistent.queued e is (waits_here e is))
          (quitted_queue s.store s.next id thread consistent.queued e is (waits_here e is))
          ∙ sym (waiting_less (machine_of s) thread _ ((tells-machine_of s).queues id ∙ ap (queue_in s.next entry) is))
