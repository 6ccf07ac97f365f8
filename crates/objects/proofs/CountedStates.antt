-- The counts of a state, and those of its entries: they stay exact under each change.
use Rattle.std.specs.FinMap as finite
use Rattle.std.specs.{Global.Vec, List.{AllByRecursion, fold}, Prelude.{IfSome, IsSome, IsTrue, None, Option, Some, vec_capacity}}
use Rattle.std.proofs.Common.{[], ℕ, ◌+◌, ◌-◌, ◌^◌, ◌∙◌, ◌∷◌, ◌≡◌, ◌≢◌, ◌≤◌, List, ap, arith, length, refl, subst, sym}
use Rattle.{std.proofs.lemmas.Bool.false≢true, base.specs.declared.ids.{ObjId.ObjId, SlotRef.SlotRef}}
use Rattle.machine.specs.{declared.{cap.Cap.Cap, object.Object.Object}, Changes.{with_word, with_words}}
use Rattle.machine.specs.{Counts.{caps_to, objects_in, slots_in, threads_in}, Machine.{Machine, cap_of, has_slot, object_of}}
use Rattle.machine.specs.{Machine.{with_cap, with_object, without_cap, words_of}, Objects.{slot_count, thread_count}}
use Rattle.machine.proofs.CapCounts.{caps_to-empty, caps_to-with_cap, caps_to-with_new, caps_to-with_object, caps_to-without_cap}
use Rattle.machine.proofs.{CapCounts.{none_for_others, one_for_its_own}, FiniteLemmas.by_key, LookUps.{id_apart, id_total}}
use Rattle.objects.specs.declared.{counts.Counts.Counts, slots.Slot.Slot, state.State.TheInside.Inside}
use Rattle.objects.specs.{Counts.{AreOfNumbers, counts_in, one_more}, Entries.{caps_in, entry_of, new_entry, replace_in}}
use Rattle.objects.specs.{Entries.{set_caps_in, set_word_in}, Family.with_slot, Pairs.{AreFilledOrGoing, MayEmpty}}
use Rattle.objects.specs.{Radices.HasRadix, State.{IsConsistent, IsCounted, IsSound, IsTallied, machine_of}}
use Rattle.objects.proofs.{CapBounds.held_there, CapsKept.{CapsKept, caps-set, caps-with_entry, caps-with_slot}, ChangeLemmas.bulk}
use Rattle.objects.proofs.ConsistentLemmas.{IsConsistent-added, IsConsistent-all_added, IsConsistent-changed, IsConsistent-empty}
use Rattle.objects.proofs.ConsistentLemmas.{IsConsistent-replace, added_gives, after, all_added_gives, caps_give, caps_same}
use Rattle.objects.proofs.ConsistentLemmas.{empty_gives, found_there, none_of, replace_gives, vacant_number, with_added, with_all_added}
use Rattle.objects.proofs.{ConsistentLemmas.{with_all_is, with_changed, word_gives}, CountLemmas.{counts-empty, counts-with_cap}}
use Rattle.objects.proofs.CountLemmas.{counts-with_new, counts-with_object, counts-with_word, counts-without_cap, few_slots, few_threads}
use Rattle.objects.proofs.PairLemmas.{paired-all_new, paired-empty, paired-with_cap, paired-with_object, paired-with_word}
use Rattle.objects.proofs.{PairLemmas.paired-without_cap, SlotLemmas.changes_slot, StateLemmas.{next-machine_of, object_at, present_kept}}
use Rattle.objects.proofs.{StateLemmas.tells-machine_of, TreeState.{IsConsistent-cap_set, put_cap_gives, take_cap_gives}}

-- a change that leaves the machine's counts as they are

counted_after :
    (s t : Inside) → IsCounted s → t.counts ≡ s.counts → t.next ≡ s.next → (m : Machine) → machine_of t ≡ m
    → counts_in m ≡ counts_in (machine_of s) → IsCounted t
counted_after s t counted counts next m gives same =
    record {
      exact = counts ∙ counted.exact ∙ sym same ∙ ap counts_in (sym gives);
      few = subst (λ n. AreOfNumbers t.counts n) (sym next) (subst (λ c. AreOfNumbers c s.next) (sym counts) counted.few);
    }

-- a change that leaves these counts and those of capabilities
pub sound_after :
    (s t : Inside) → IsSound s → IsConsistent t → t.counts ≡ s.counts → t.next ≡ s.next → t.going ≡ s.going → CapsKept s.store t.store
    → (m : Machine) → machine_of t ≡ m → counts_in m ≡ counts_in (machine_of s) → ((id : ObjId) → caps_to m id ≡ caps_to (machine_of s) id)
    → AreFilledOrGoing m → IsSound t
sound_after s t sound consistent counts next going kept m gives same caps paired =
    record {
      consistent = consistent;
      counted = counted_after s t sound.counted counts next m gives same;
      tallied = λ id. kept id ∙ sound.tallied id ∙ sym (caps id) ∙ ap (λ n. caps_to n id) (sym gives);
      roomy = rw (counts, going) sound.roomy;
      paired = subst AreFilledOrGoing (sym gives) paired;
    }

-- a capability is put into a slot or taken out

module _ (s : Inside) (slot : SlotRef) (held : Cap) (filling : Option Cap) (caps : ℕ) where
  abbrev set : Slot → Slot
  set old = record old { cap = filling }

  abbrev slots_set : Inside
  slots_set = record s { store = with_slot s.store slot set }

  abbrev pub cap_set : Inside
  cap_set = with_changed slots_set held.object (set_caps_in caps)

  cap_set_sound :
      IsSound s → IsConsistent slots_set → (m : Machine) → machine_of slots_set ≡ m → counts_in m ≡ counts_in (machine_of s)
      → IsSome (entry_of s.store held.object) → caps ≡ caps_to m held.object
      → ((id : ObjId) → id ≢ held.object → caps_to m id ≡ caps_to (machine_of s) id) → AreFilledOrGoing m → IsSound cap_set
  cap_set_sound sound consistent m gives same there here others paired =
      record {
        consistent =
            IsConsistent-changed slots_set consistent held.object (set_caps_in caps) (λ e is sized. sized) (λ e. refl) (λ e. refl);
        counted = counted_after s cap_set sound.counted refl refl m machine_now same;
        tallied =
            λ id.
            caps-set (with_slot s.store slot set) held.object caps still_there id
            ∙ sym
            (by_key id_total id_apart id held.object (caps_to m id) caps _
            (λ same. ap (caps_to m) same ∙ sym here)
            (λ apart. others id apart ∙ sym (sound.tallied id) ∙ sym (caps-with_slot s.store slot set id)))
            ∙ ap (λ n. caps_to n id) (sym machine_now);
        roomy = sound.roomy;
        paired = subst AreFilledOrGoing (sym machine_now) paired;
      }
    where
      machine_now : machine_of cap_set ≡ m
      machine_now = caps_give slots_set held.object caps ∙ gives

      still_there : IsSome (entry_of (with_slot s.store slot set) held.object)
      still_there = present_kept bulk _ _ ((changes_slot s.store slot set).alone.same held.object) there

pub cap_set_gives :
    (s : Inside) (slot : SlotRef) (held : Cap) (filling : Option Cap) (caps : ℕ) (m : Machine)
    → machine_of (record s { store = with_slot s.store slot (λ old. record old { cap = filling }) }) ≡ m
    → machine_of (cap_set s slot held filling caps) ≡ m
cap_set_gives s slot held filling caps m gives = caps_give _ held.object caps ∙ gives

pub sound_put :
    (s : Inside) → IsSound s → (slot : SlotRef) (held : Cap) (caps : ℕ) → IsTrue (has_slot (machine_of s) slot)
    → cap_of (machine_of s) slot ≡ None → IsSome (object_of (machine_of s) held.object)
    → caps ≡ caps_to (machine_of s) held.object + 1 → IsSound (cap_set s slot held (Some held) caps)
sound_put s sound slot held caps has vacant there count =
    let m : Machine = machine_of s in
    let more = caps_to-with_cap m slot held vacant in
    cap_set_sound s slot held (Some held) caps sound (IsConsistent-cap_set s sound.consistent slot (Some held)) (with_cap m slot held)
    (put_cap_gives s sound.consistent slot held has) (counts-with_cap m slot held) (found_there s held.object there)
    (let now = more held.object in let one = one_for_its_own held in omega (arith, now, one, count))
    (λ id apart. let now = more id in let none = none_for_others id held (λ same. apart (sym same)) in omega (arith, now, none))
    (paired-with_cap m slot held sound.paired)

pub sound_take :
    (s : Inside) → IsSound s → (slot : SlotRef) (held : Cap) (caps : ℕ) → cap_of (machine_of s) slot ≡ Some held → caps ≡ caps_to (machine_of s) held.object - 1
    → MayEmpty (machine_of s) slot → IsSound (cap_set s slot held None caps)
sound_take s sound slot held caps filled count may =
    let m : Machine = machine_of s in
    let less = caps_to-without_cap m slot held filled in
    cap_set_sound s slot held None caps sound (IsConsistent-cap_set s sound.consistent slot None) (without_cap m slot)
    (take_cap_gives s sound.consistent slot) (counts-without_cap m slot) (held_there s sound slot held filled)
    (let now = less held.object in let one = one_for_its_own held in omega (arith, now, one, count))
    (λ id apart. let now = less id in let none = none_for_others id held (λ same. apart (sym same)) in omega (arith, now, none))
    (paired-without_cap m slot may sound.paired)

-- no objects
pub sound_empty :
    (s : Inside) → s.store ≡ finite.empty → s.next ≡ 0 → s.counts ≡ record { objects = 0; slots = 0; threads = 0 }
    → s.going.items ≡ [] → IsSound s
sound_empty s none next counts going =
    record {
      consistent = IsConsistent-empty s none next;
      counted =
          record {
            exact = counts ∙ sym counts-empty ∙ ap counts_in (sym (empty_gives s none next going));
            few = rw counts (record { objects = omega arith; slots = omega arith; threads = omega arith });
          };
      tallied =
          λ id.
          ap caps_in (none_of s none id) ∙ sym (caps_to-empty id)
          ∙ ap (λ m. caps_to m id) (sym (empty_gives s none next going));
      roomy = rw counts (omega arith);
      paired = subst AreFilledOrGoing (sym (empty_gives s none next going)) paired-empty;
    }

-- a new object

unnumbered : (s : Inside) → IsConsistent s → object_of (machine_of s) (record { 0 = (machine_of s).next }) ≡ None
unnumbered s consistent =
    ap (λ n. object_of (machine_of s) (record { 0 = n })) (next-machine_of s)
    ∙ (tells-machine_of s).objects (record { 0 = s.next }) ∙ ap object_at (vacant_number s consistent)

IsCounted-added :
    (s : Inside) → IsConsistent s → IsCounted s → (object : Object) → HasRadix object → IsCounted (with_added s object)
IsCounted-added s consistent counted object radix =
    let slots = few_slots object radix in
    let threads = few_threads object in
    let few = counted.few in
    record {
      exact =
          ap (λ c. one_more c object) counted.exact
          ∙ sym (counts-with_new (machine_of s) object (unnumbered s consistent))
          ∙ ap counts_in (sym (added_gives s consistent object));
      few =
          record {
            objects = omega (arith, few.objects);
            slots = omega (arith, few.slots, slots);
            threads = omega (arith, few.threads, threads);
          };
    }

all_counted :
    (s : Inside) → IsConsistent s → IsCounted s → (objects : List Object) → s.next + length objects ≤ 2 ^ 48
    → AllByRecursion HasRadix objects → IsCounted (with_all_added s objects)
all_counted s consistent counted [] room radices = counted
all_counted s consistent counted (object ∷ objects) room radices =
    all_counted (with_added s object) (IsConsistent-added s consistent object (omega arith) radices.0)
    (IsCounted-added s consistent counted object radices.0) objects (omega arith) radices.1

IsTallied-added : (s : Inside) → IsConsistent s → IsTallied s → (object : Object) → IsTallied (with_added s object)
IsTallied-added s consistent tallied object id =
    let number : ObjId = record { 0 = s.next } in
    caps_same (entry_of s.store) (entry_of (with_added s object).store) s.next number object (vacant_number s consistent)
    (finite.get-insert id_total s.store number (new_entry object)) id
    ∙ tallied id ∙ sym (caps_to-with_new (machine_of s) object id)
    ∙ ap (λ m. caps_to m id) (sym (added_gives s consistent object))

all_tallied :
    (s : Inside) → IsConsistent s → IsTallied s → (objects : List Object) → s.next + length objects ≤ 2 ^ 48
    → AllByRecursion HasRadix objects → IsTallied (with_all_added s objects)
all_tallied s consistent tallied [] room radices = tallied
all_tallied s consistent tallied (object ∷ objects) room radices =
    all_tallied (with_added s object) (IsConsistent-added s consistent object (omega arith) radices.0)
    (IsTallied-added s consistent tallied object) objects (omega arith) radices.1

pub sound_all_added :
    (s : Inside) (sound : IsSound s) (objects : List Object) (room : s.next + length objects ≤ 2 ^ 48)
    (radices : AllByRecursion HasRadix objects) → s.counts.objects + length objects ≤ vec_capacity s.going
    → IsSound (after s sound.consistent objects room radices)
sound_all_added s sound objects room radices roomy =
    record {
      consistent = IsConsistent-all_added s sound.consistent objects room radices;
      counted =
          subst IsCounted (sym (with_all_is s objects _ refl))
          (all_counted s sound.consistent sound.counted objects room radices);
      tallied =
          subst IsTallied (sym (with_all_is s objects _ refl))
          (all_tallied s sound.consistent sound.tallied objects room radices);
      roomy = let more = counted_more s.counts objects in omega (arith, more, roomy);
      paired =
          subst AreFilledOrGoing (sym (all_added_gives s sound.consistent objects room radices))
          (paired-all_new (machine_of s) objects sound.paired);
    }
  where
    counted_more : (counts : Counts) (objects : List Object) → (fold one_more counts objects).objects ≡ counts.objects + length objects
    counted_more counts [] = omega arith
    counted_more counts (object ∷ objects) = let more = counted_more (one_more counts object) objects in omega (arith, more)

-- an object is replaced by one with as many slots and threads
pub sound_replace :
    (s : Inside) → IsSound s → (id : ObjId) (object : Object) → HasRadix object → IsSome (object_of (machine_of s) id)
    → IfSome (object_of (machine_of s) id) (λ old. slot_count object ≡ slot_count old)
    → IfSome (object_of (machine_of s) id) (λ old. thread_count object ≡ thread_count old)
    → IsSound (with_changed s id (replace_in object))
sound_replace s sound id object radix some slots threads =
    sound_after s (with_changed s id (replace_in object)) sound
    (IsConsistent-replace s sound.consistent id object radix slots) refl refl
    refl (caps-with_entry s.store id (replace_in object) (λ e. refl)) _ (replace_gives s sound.consistent id object some)
    (by_object (object_of (machine_of s) id) refl some slots threads) (caps_to-with_object (machine_of s) id object)
    (paired-with_object (machine_of s) id object sound.paired)
  where
    by_object :
        (o : Option Object) → object_of (machine_of s) id ≡ o → IsSome o → IfSome o (λ old. slot_count object ≡ slot_count old)
        → IfSome o (λ old. thread_count object ≡ thread_count old)
        → counts_in (with_object (machine_of s) id object) ≡ counts_in (machine_of s)
    by_object None is some slots threads = absurd (false≢true some)
    by_object (Some old) is some slots threads = counts-with_object (machine_of s) id old object is slots threads

-- a word is set

caps_to-with_words :
    (m : Machine) (at : ObjId) (words : List ℕ) (id : ObjId) → caps_to (with_words m at words) id ≡ caps_to m id
unfolding caps_to with_words
caps_to-with_words m at words id = refl

caps_to-with_word : (m : Machine) (at : ObjId) (index word : ℕ) (id : ObjId) → caps_to (with_word m at index word) id ≡ caps_to m id
unfolding with_word
caps_to-with_word m at index word id = by_words (words_of m at) refl where
  by_words : (o : Option (List ℕ)) → words_of m at ≡ o → caps_to (with_word m at index word) id ≡ caps_to m id
  by_words None is = rw is refl
  by_words (Some words) is = rw is (caps_to-with_words m at _ id)

pub sound_word :
    (s : Inside) → IsSound s → (id : ObjId) (index word : ℕ) → IsSound (with_changed s id (set_word_in index word))
sound_word s sound id index word =
    sound_after s (with_changed s id (set_word_in index word)) sound
    (IsConsistent-changed s sound.consistent id (set_word_in index word) (λ e is sized. sized) (λ e. refl) (λ e. refl)) refl refl refl
    (caps-with_entry s.store id (set_word_in index word) (λ e. refl)) _ (word_gives s id index word)
    (counts-with_word (machine_of s) id index word) (caps_to-with_word (machine_of s) id index word)
    (paired-with_word (machine_of s) id index word sound.paired)

-- the list of objects that are going changes

module _ (s : Inside) (going : Vec ObjId) where
  abbrev pub with_found : Inside
  with_found = record s { going = going }

  found_caps : (id : ObjId) → caps_to (machine_of with_found) id ≡ caps_to (machine_of s) id
  unfolding machine_of caps_to
  found_caps id = refl

  found_counts : counts_in (machine_of with_found) ≡ counts_in (machine_of s)
  unfolding machine_of objects_in slots_in threads_in
  found_counts = refl

  -- the room is no less than before
  pub sound_going :
      IsSound s → vec_capacity s.going ≤ vec_capacity going → (m : Machine) → machine_of with_found ≡ m → AreFilledOrGoing m → IsSound with_found
  sound_going sound grown m gives paired =
      record {
        consistent = consistent_found sound.consistent;
        counted = counted_after s with_found sound.counted refl refl (machine_of with_found) refl found_counts;
        tallied = λ id. sound.tallied id ∙ sym (found_caps id);
        roomy = let room = sound.roomy in omega (arith, room, grown);
        paired = subst AreFilledOrGoing (sym gives) paired;
      }
    where
      consistent_found : IsConsistent s → IsConsistent with_found
      consistent_found c =
          record { fresh = c.fresh; bounded = c.bounded; sized = c.sized; queued = c.queued; kin = c.kin }

  pub going_gives : (ids : List ObjId) → going.items ≡ ids → machine_of with_found ≡ record (machine_of s) { going = ids }
  unfolding machine_of
  going_gives ids same = ap (λ found. record (machine_of s) { going = found }) same

  pub room_gives : going.items ≡ s.going.items → machine_of with_found ≡ machine_of s
  unfolding machine_of
  room_gives same = ap (λ found. record (machine_of s) { going = found }) same

  pub sound_room : IsSound s → vec_capacity s.going ≤ vec_capacity going → going.items ≡ s.going.items → IsSound with_found
  sound_room sound grown same = sound_going sound grown (machine_of s) (room_gives same) sound.paired
