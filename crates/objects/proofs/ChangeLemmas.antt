-- Machines after one entry is changed or added, or threads are linked otherwise.
use Rattle.std.{specs.Prelude.{None, Option, Some, option_and_then, option_map, slice_get, slice_set}, proofs.Common.{[], ℕ, ◌+◌, ◌∙◌, ◌≡◌}}
use Rattle.std.proofs.Common.{◌≢◌, Bool, List, ap, cond, false, length, refl, replicate, subst, sym, true}
use Rattle.std.specs.FinMap as finite
use Rattle.base.specs.declared.ids.{ObjId.ObjId, SlotRef.SlotRef}
use Rattle.machine.specs.{declared.object.Object.Object, Changes.with_words, Machine.{Machine, cap_of, object_of, parent_of, queue_of}}
use Rattle.machine.specs.{Machine.{same_id, with_new, with_object, with_queue, words_of}, Objects.{slot_count, word_count}}
use Rattle.machine.proofs.{FiniteLemmas.{by_key, cond_elsewhere, cond_here, same_from_tie}, LookUps.{id_apart, id_total}}
use Rattle.machine.proofs.SlotChanges.{SameObjects}
use Rattle.machine.proofs.LookUps as seen
use Rattle.objects.specs.{declared.{entry.Entry.Entry, links.{Ends.Ends, Standing.Standing}, slots.Slot.Slot}, Entries.change_slot_in}
use Rattle.objects.specs.{Entries.{empty_slot, new_entry, replace_in, set_caps_in, set_word_in, slot_at}, Family.{cap_in, parent_in}}
use Rattle.objects.specs.{Links.{AreQueued, ends_of, queue_in, standing_of}, Queues.{AreQueues, walk}}
use Rattle.objects.proofs.{EditLemmas.{slice_get_edited_other, slice_get_edited_same}, EntryLemmas.read_empty, StateLemmas.Tells}
use Rattle.objects.proofs.StateLemmas.{object_at, words_at}

-- only one object's entry has changed, by this change
abbrev pub IsChanged : (ObjId → Option Entry) → (ObjId → Option Entry) → ObjId → (Entry → Entry) → Type 0
IsChanged old new id change = (q : ObjId) → new q ≡ cond (same_id q id) (option_map change (old q)) (old q)

kept_map :
    {A : Type 0} (read : Entry → A) (change : Entry → Entry) → ((e : Entry) → read (change e) ≡ read e)
    → (b : Bool) (o : Option Entry) → option_map read (cond b (option_map change o) o) ≡ option_map read o
kept_map read change keeps false o = refl
kept_map read change keeps true None = refl
kept_map read change keeps true (Some e) = ap Some (keeps e)

kept_then :
    {A : Type 0} (read : Entry → Option A) (change : Entry → Entry) → ((e : Entry) → read (change e) ≡ read e)
    → (b : Bool) (o : Option Entry) → option_and_then read (cond b (option_map change o) o) ≡ option_and_then read o
kept_then read change keeps false o = refl
kept_then read change keeps true None = refl
kept_then read change keeps true (Some e) = keeps e

module _ (old new : ObjId → Option Entry) (id : ObjId) (change : Entry → Entry) (changed : IsChanged old new id change) where
  -- a part that the change keeps
  pub part_kept :
      {A : Type 0} (read : Entry → A) → ((e : Entry) → read (change e) ≡ read e) → (q : ObjId)
      → option_map read (new q) ≡ option_map read (old q)
  part_kept read keeps q = ap (option_map read) (changed q) ∙ kept_map read change keeps (same_id q id) (old q)

  pub reading_kept :
      {A : Type 0} (read : Entry → Option A) → ((e : Entry) → read (change e) ≡ read e) → (q : ObjId)
      → option_and_then read (new q) ≡ option_and_then read (old q)
  reading_kept read keeps q = ap (option_and_then read) (changed q) ∙ kept_then read change keeps (same_id q id) (old q)

  -- the entry that has changed, and the others
  pub changed_here : (e : Entry) → old id ≡ Some e → new id ≡ Some (change e)
  changed_here e is = changed id ∙ cond_here id_total id_apart id _ _ ∙ ap (option_map change) is

  pub changed_other : (q : ObjId) → q ≢ id → new q ≡ old q
  changed_other q apart = changed q ∙ cond_elsewhere id_total id_apart q id _ _ apart

  -- a part that the change sets
  part_set :
      {A : Type 0} (read : Entry → A) (e : Entry) → old id ≡ Some e → (q : ObjId)
      → option_map read (new q) ≡ cond (same_id q id) (Some (read (change e))) (option_map read (old q))
  part_set read e is q =
      by_key id_total id_apart q id _ _ _ (λ same. ap (option_map read) (ap new same ∙ changed_here e is))
      (λ differs. ap (option_map read) (changed_other q differs))

-- one slot has changed

module _ (old new : ObjId → Option Entry) (at : SlotRef) (change : Slot → Slot)
    (changed : IsChanged old new at.holder (change_slot_in at.index change)) where
  pub slot_other : (q : SlotRef) → q ≢ at → slot_at new q ≡ slot_at old q
  slot_other q apart = ap (option_and_then (λ e. slice_get e.slots q.index)) (changed q.holder) ∙ by_tie (same_id q.holder at.holder) refl where
    by_tie :
        (tie : Bool) → same_id q.holder at.holder ≡ tie
        → option_and_then (λ e. slice_get e.slots q.index) (cond tie (option_map (change_slot_in at.index change) (old q.holder)) (old q.holder))
        ≡ slot_at old q
    by_tie false e = refl
    by_tie true e =
        let holder : q.holder ≡ at.holder = same_from_tie id_total id_apart q.holder at.holder e in
        kept_then (λ e. slice_get e.slots q.index) (change_slot_in at.index change)
        (λ e. slice_get_edited_other change e.slots at.index q.index
        (λ same. apart (λ i. record { holder = holder i; index = same i })))
        true (old q.holder)

  pub slot_here : slot_at new at ≡ option_map change (slot_at old at)
  slot_here =
      ap (option_and_then (λ e. slice_get e.slots at.index)) (changed at.holder ∙ cond_here id_total id_apart at.holder _ _)
      ∙ by_entry (old at.holder) where
        by_entry :
            (o : Option Entry)
            → option_and_then (λ e. slice_get e.slots at.index) (option_map (change_slot_in at.index change) o)
            ≡ option_map change (option_and_then (λ e. slice_get e.slots at.index) o)
        by_entry None = refl
        by_entry (Some e) = slice_get_edited_same change e.slots at.index

-- the links of an entry, and the rest of it

abbrev pub links : Entry → Ends × Standing
links e = (e.ends, e.standing)

abbrev pub rest : Entry → Object × List Slot × List ℕ
rest e = (e.object, e.slots, e.words)

-- all of an entry but what its slots have
abbrev pub bulk : Entry → Object × ℕ × Ends × Standing × List ℕ
bulk e = (e.object, length e.slots, e.ends, e.standing, e.words)

-- a part that is as it was is read as it was

pub part_read :
    {A B : Type 0} (part : Entry → A) (read : A → B) (o o' : Option Entry) → option_map part o' ≡ option_map part o
    → option_map (λ e. read (part e)) o' ≡ option_map (λ e. read (part e)) o
part_read part read o o' same = twice o' ∙ ap (option_map read) same ∙ sym (twice o) where
  twice : (o : Option Entry) → option_map (λ e. read (part e)) o ≡ option_map read (option_map part o)
  twice None = refl
  twice (Some e) = refl

part_found :
    {A B : Type 0} (part : Entry → A) (read : A → Option B) (o o' : Option Entry) → option_map part o' ≡ option_map part o
    → option_and_then (λ e. read (part e)) o' ≡ option_and_then (λ e. read (part e)) o
part_found part read o o' same = twice o' ∙ ap (option_and_then read) same ∙ sym (twice o) where
  twice : (o : Option Entry) → option_and_then (λ e. read (part e)) o ≡ option_and_then read (option_map part o)
  twice None = refl
  twice (Some e) = refl

-- entries have the slots that they had if all but their links is as it was
pub slots_kept :
    (old new : ObjId → Option Entry) → ((q : ObjId) → option_map rest (new q) ≡ option_map rest (old q)) → (q : SlotRef)
    → slot_at new q ≡ slot_at old q
slots_kept old new same q = part_found rest (λ r. slice_get r.1 q.index) (old q.holder) (new q.holder) (same q.holder)

-- entries whose links are as they were

module _ (old new : ObjId → Option Entry) (same : (q : ObjId) → option_map links (new q) ≡ option_map links (old q)) where
  standing_same : ◌≡◌ {A = ObjId → Standing} (λ q. standing_of (new q)) (λ q. standing_of (old q))
  standing_same = λ i q. (read (new q) ∙ ap by (same q) ∙ sym (read (old q))) i where
    by : Option (Ends × Standing) → Standing
    by None = record { at = None; previous = None; next = None }
    by (Some l) = l.1

    read : (o : Option Entry) → standing_of o ≡ by (option_map links o)
    read None = refl
    read (Some e) = refl

  ends_same : ◌≡◌ {A = ObjId → Ends} (λ q. ends_of (new q)) (λ q. ends_of (old q))
  ends_same = λ i q. (read (new q) ∙ ap by (same q) ∙ sym (read (old q))) i where
    by : Option (Ends × Standing) → Ends
    by None = record { first = None; last = None }
    by (Some l) = l.0

    read : (o : Option Entry) → ends_of o ≡ by (option_map links o)
    read None = refl
    read (Some e) = refl

  pub links_kept : (numbers : ℕ) → AreQueued old numbers → AreQueued new numbers
  links_kept numbers queued =
      subst (λ standing. AreQueues (λ q. ends_of (new q)) standing numbers) (sym standing_same)
      (subst (λ ends. AreQueues ends (λ q. standing_of (old q)) numbers) (sym ends_same) queued)

  queue_kept : (numbers : ℕ) (q : ObjId) → queue_in numbers new (new q) ≡ queue_in numbers old (old q)
  queue_kept numbers q =
      ap (λ standing. option_map (λ e. walk standing numbers e.ends.first) (new q)) standing_same
      ∙ part_read links (λ l. walk (λ thread. standing_of (old thread)) numbers l.0.first) (old q) (new q) (same q)

words_of-with_words :
    (m : Machine) (id : ObjId) (words : List ℕ) (q : ObjId)
    → words_of (with_words m id words) q ≡ cond (same_id q id) (Some words) (words_of m q)
unfolding words_of with_words
words_of-with_words m id words q = finite.get-insert id_total m.words id words q

-- a new object changes nothing that is read of slots, if an empty slot reads as an absent one
pub added_read :
    {A : Type 0} (old new : ObjId → Option Entry) (object : Object) (id : ObjId) → old id ≡ None
    → ((q : ObjId) → new q ≡ cond (same_id q id) (Some (new_entry object)) (old q)) → (read : Option Slot → A)
    → read (Some empty_slot) ≡ read None → (q : SlotRef) → read (slot_at new q) ≡ read (slot_at old q)
added_read old new object id vacant added read none q =
    ap (λ o. read (option_and_then (λ e. slice_get e.slots q.index) o)) (added q.holder) ∙ by_tie (same_id q.holder id) refl where
      by_tie :
          (tie : Bool) → same_id q.holder id ≡ tie
          → read (option_and_then (λ e. slice_get e.slots q.index) (cond tie (Some (new_entry object)) (old q.holder)))
          ≡ read (slot_at old q)
      by_tie false e = refl
      by_tie true e =
          read_empty read empty_slot none (slot_count object) q.index
          ∙ sym
          (ap (λ o. read (option_and_then (λ e. slice_get e.slots q.index) o))
          (subst (λ k. old k ≡ None) (sym (same_from_tie id_total id_apart q.holder id e)) vacant))

module _ (numbers : ℕ) (m : Machine) (old new : ObjId → Option Entry) (tells : Tells numbers m old) where
  -- a change of slots alone
  pub tells-slots :
      (next : Machine) → SameObjects m next → ((q : ObjId) → option_map bulk (new q) ≡ option_map bulk (old q))
      → ((q : SlotRef) → cap_of next q ≡ cap_in (slot_at new q)) → ((q : SlotRef) → parent_of next q ≡ parent_in (slot_at new q))
      → Tells numbers next new
  tells-slots next objects same caps parents =
      record {
        objects = λ q. objects.objects q ∙ tells.objects q ∙ sym (part_read bulk (λ b. b.0) (old q) (new q) (same q));
        queues =
            λ q.
            objects.queues q ∙ tells.queues q
            ∙ sym (queue_kept old new (λ q. part_read bulk (λ b. (b.2, b.3)) (old q) (new q) (same q)) numbers q);
        words = λ q. objects.words q ∙ tells.words q ∙ sym (part_read bulk (λ b. b.4) (old q) (new q) (same q));
        caps = caps;
        parents = parents;
      }

  pub tells-replace :
      (id : ObjId) (object : Object) → IsChanged old new id (replace_in object) → (e : Entry) → old id ≡ Some e
      → Tells numbers (with_object m id object) new
  unfolding queue_of words_of cap_of parent_of with_object
  tells-replace id object changed e is =
      let change : Entry → Entry = replace_in object in
      record {
        objects =
            λ q.
            seen.object_of-with_object m id object q ∙ ap (cond (same_id q id) (Some object)) (tells.objects q)
            ∙ sym (part_set old new id change changed (λ e. e.object) e is q);
        queues = λ q. tells.queues q ∙ sym (queue_kept old new (part_kept old new id change changed links (λ e. refl)) numbers q);
        words = λ q. tells.words q ∙ sym (part_kept old new id change changed (λ e. e.words) (λ e. refl) q);
        caps =
            λ q.
            tells.caps q
            ∙ ap cap_in (sym (reading_kept old new id change changed (λ e. slice_get e.slots q.index) (λ e. refl) q.holder));
        parents =
            λ q.
            tells.parents q
            ∙ ap parent_in (sym (reading_kept old new id change changed (λ e. slice_get e.slots q.index) (λ e. refl) q.holder));
      }

  -- a change of one word
  pub tells-word :
      (id : ObjId) (index word : ℕ) → IsChanged old new id (set_word_in index word) → (e : Entry) → old id ≡ Some e
      → Tells numbers (with_words m id (slice_set e.words index word)) new
  unfolding object_of queue_of cap_of parent_of with_words
  tells-word id index word changed e is =
      let change : Entry → Entry = set_word_in index word in
      record {
        objects = λ q. tells.objects q ∙ sym (part_kept old new id change changed (λ e. e.object) (λ e. refl) q);
        queues = λ q. tells.queues q ∙ sym (queue_kept old new (part_kept old new id change changed links (λ e. refl)) numbers q);
        words =
            λ q.
            words_of-with_words m id (slice_set e.words index word) q
            ∙ ap (cond (same_id q id) (Some (slice_set e.words index word))) (tells.words q)
            ∙ sym (part_set old new id change changed (λ e. e.words) e is q);
        caps =
            λ q.
            tells.caps q
            ∙ ap cap_in (sym (reading_kept old new id change changed (λ e. slice_get e.slots q.index) (λ e. refl) q.holder));
        parents =
            λ q.
            tells.parents q
            ∙ ap parent_in (sym (reading_kept old new id change changed (λ e. slice_get e.slots q.index) (λ e. refl) q.holder));
      }

  -- a change of the number of capabilities that are counted
  pub tells-caps : (id : ObjId) (caps : ℕ) → IsChanged old new id (set_caps_in caps) → Tells numbers m new
  tells-caps id caps changed =
      let change : Entry → Entry = set_caps_in caps in
      record {
        objects = λ q. tells.objects q ∙ sym (part_kept old new id change changed (λ e. e.object) (λ e. refl) q);
        queues = λ q. tells.queues q ∙ sym (queue_kept old new (part_kept old new id change changed links (λ e. refl)) numbers q);
        words = λ q. tells.words q ∙ sym (part_kept old new id change changed (λ e. e.words) (λ e. refl) q);
        caps =
            λ q.
            tells.caps q
            ∙ ap cap_in (sym (reading_kept old new id change changed (λ e. slice_get e.slots q.index) (λ e. refl) q.holder));
        parents =
            λ q.
            tells.parents q
            ∙ ap parent_in (sym (reading_kept old new id change changed (λ e. slice_get e.slots q.index) (λ e. refl) q.holder));
      }

  -- a change of links alone, which makes one queue another
  pub tells-queue :
      (id : ObjId) (queue : List ObjId) → ((q : ObjId) → option_map rest (new q) ≡ option_map rest (old q))
      → queue_in numbers new (new id) ≡ Some queue
      → ((q : ObjId) → q ≢ id → queue_in numbers new (new q) ≡ queue_in numbers old (old q))
      → Tells numbers (with_queue m id queue) new
  unfolding object_of words_of cap_of parent_of with_queue
  tells-queue id queue same here others =
      record {
        objects = λ q. tells.objects q ∙ sym (part_read rest (λ r. r.0) (old q) (new q) (same q));
        queues =
            λ q.
            seen.queue_of-with_queue m id queue q
            ∙ sym
            (by_key id_total id_apart q id _ _ _ (λ is. ap (λ k. queue_in numbers new (new k)) is ∙ here)
            (λ differs. others q differs ∙ sym (tells.queues q)));
        words = λ q. tells.words q ∙ sym (part_read rest (λ r. r.2) (old q) (new q) (same q));
        caps = λ q. tells.caps q ∙ ap cap_in (sym (slots_kept old new same q));
        parents = λ q. tells.parents q ∙ ap parent_in (sym (slots_kept old new same q));
      }

  -- entries that are as they were
  pub tells-same : ((q : ObjId) → new q ≡ old q) → Tells numbers m new
  tells-same same =
      record {
        objects = λ q. tells.objects q ∙ sym (ap object_at (same q));
        queues = λ q. tells.queues q ∙ sym (queue_kept old new (λ q. ap (option_map links) (same q)) numbers q);
        words = λ q. tells.words q ∙ sym (ap words_at (same q));
        caps = λ q. tells.caps q ∙ sym (ap (λ o. cap_in (option_and_then (λ e. slice_get e.slots q.index) o)) (same q.holder));
        parents = λ q. tells.parents q ∙ sym (ap (λ o. parent_in (option_and_then (λ e. slice_get e.slots q.index) o)) (same q.holder));
      }

  -- a new object
  pub tells-new :
      (object : Object) → ((q : ObjId) → new q ≡ cond (same_id q (record { 0 = m.next })) (Some (new_entry object)) (old q))
      → old (record { 0 = m.next }) ≡ None
      → ((q : ObjId) → queue_in (numbers + 1) new (new q)
      ≡ cond (same_id q (record { 0 = m.next })) (Some []) (queue_in numbers old (old q)))
      → Tells (numbers + 1) (with_new m object) new
  unfolding cap_of parent_of with_new
  tells-new object added vacant queues =
      let id : ObjId = record { 0 = m.next } in
      record {
        objects =
            λ q.
            seen.object_of-with_new m object q ∙ ap (cond (same_id q id) (Some object)) (tells.objects q)
            ∙ sym (ap object_at (added q) ∙ spread (λ e. e.object) (same_id q id) (old q));
        queues =
            λ q.
            seen.queue_of-with_new m object q ∙ ap (cond (same_id q id) (Some [])) (tells.queues q) ∙ sym (queues q);
        words =
            λ q.
            seen.words_of-with_new m object q
            ∙ ap (cond (same_id q id) (Some (replicate (word_count object) 0))) (tells.words q)
            ∙ sym (ap words_at (added q) ∙ spread (λ e. e.words) (same_id q id) (old q));
        caps = λ q. tells.caps q ∙ sym (added_read old new object (record { 0 = m.next }) vacant added cap_in refl q);
        parents = λ q. tells.parents q ∙ sym (added_read old new object (record { 0 = m.next }) vacant added parent_in refl q);
      }
    where
      spread :
          {A : Type 0} (read : Entry → A) (b : Bool) (o : Option Entry)
          → option_map read (cond b (Some (new_entry object)) o) ≡ cond b (Some (read (new_entry object))) (option_map read o)
      spread read true o = refl
      spread read false o = refl
