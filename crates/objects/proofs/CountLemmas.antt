-- The counts of a machine: a new object adds to them, and changes that make or remove no object leave them as they are.
use Rattle.std.{specs.{FinMap.entries, Prelude.{None, Option, Some, sum, sum_by}}, proofs.Common.{[], ℕ, ◌+◌, ◌^◌, ◌∙◌, ◌∷◌, ◌≡◌, ◌≤◌}}
use Rattle.std.specs.FinMap as finite
use Rattle.std.proofs.{Common.{List, ap, arith, length, map, refl, sym}, Math.Pow.pow_mono, lemmas.List.Sums.sum_by-cons}
use Rattle.base.specs.declared.ids.{ObjId.ObjId, SlotRef.SlotRef}
use Rattle.machine.specs.{declared.{cap.Cap.Cap, object.Object.Object}, Changes.{with_waiting, with_word, with_words, without_object}}
use Rattle.machine.specs.declared.object.Object.TheVariants as o
use Rattle.machine.specs.{Changes.without_waiting, Counts.{objects_in, present, slots_in, threads_in}, Machine.{Machine, empty_machine}}
use Rattle.machine.specs.Machine.{id_cmp, object_of, queue_of, with_cap, with_new, with_object, with_parent, with_queue, without_cap}
use Rattle.machine.{specs.{Machine.{without_parent, words_of}, Objects.{slot_count, thread_count}}, proofs.FiniteSums.sum-empty}
use Rattle.machine.proofs.{FiniteSums.{sum-insert, sum-remove, sum-set, sum_of}, LookUps.{id_apart, id_total}}
use Rattle.objects.specs.{declared.counts.Counts.Counts, Counts.{counts_in, one_less, one_more}, Radices.HasRadix}

-- what is counted is a sum over the objects

summed :
    (count : Object → ℕ) (pairs : List (ObjId × Object))
    → sum (map count (map (λ entry. entry.1) pairs)) ≡ sum_by (λ entry. count entry.1) pairs
summed count [] = refl
summed count (pair ∷ pairs) =
    sum_by-cons (λ n. n) (count pair.1) (map count (map (λ entry. entry.1) pairs))
    ∙ ap (λ n. count pair.1 + n) (summed count pairs) ∙ sym (sum_by-cons (λ entry. count entry.1) pair pairs)

ones : (objects : List Object) → length objects ≡ sum (map (λ _. 1) objects)
ones [] = refl
ones (object ∷ objects) =
    let rest = ones objects in
    let more = sum_by-cons (λ n. n) 1 (map (λ _. 1) objects) in
    omega (arith, rest, more)

objects-sum : (m : Machine) → objects_in m ≡ sum_of (λ _. 1) m.objects
unfolding objects_in
objects-sum m = ones (present m) ∙ summed (λ _. 1) (entries m.objects)

slots-sum : (m : Machine) → slots_in m ≡ sum_of slot_count m.objects
unfolding slots_in
slots-sum m = summed slot_count (entries m.objects)

threads-sum : (m : Machine) → threads_in m ≡ sum_of thread_count m.objects
unfolding threads_in
threads-sum m = summed thread_count (entries m.objects)

-- the counts of a machine

same_counts : (a b : Counts) → a.objects ≡ b.objects → a.slots ≡ b.slots → a.threads ≡ b.threads → a ≡ b
same_counts a b objects slots threads = λ i. record { objects = objects i; slots = slots i; threads = threads i }

pub counts-empty : counts_in empty_machine ≡ record { objects = 0; slots = 0; threads = 0 }
unfolding empty_machine
counts-empty =
    same_counts _ _ (objects-sum empty_machine ∙ sum-empty id_cmp (λ _. 1)) (slots-sum empty_machine ∙ sum-empty id_cmp slot_count)
    (threads-sum empty_machine ∙ sum-empty id_cmp thread_count)

pub counts-with_new :
    (m : Machine) (object : Object) → object_of m (record { 0 = m.next }) ≡ None
    → counts_in (with_new m object) ≡ one_more (counts_in m) object
unfolding with_new object_of
counts-with_new m object none =
    same_counts _ _
    (objects-sum (with_new m object) ∙ inserted (λ _. 1) ∙ ap (λ n. n + 1) (sym (objects-sum m)))
    (slots-sum (with_new m object) ∙ inserted slot_count ∙ ap (λ n. n + slot_count object) (sym (slots-sum m)))
    (threads-sum (with_new m object) ∙ inserted thread_count ∙ ap (λ n. n + thread_count object) (sym (threads-sum m)))
  where
    inserted :
        (count : Object → ℕ)
        → sum_of count (finite.insert m.objects (record { 0 = m.next }) object) ≡ sum_of count m.objects + count object
    inserted count = sum-insert id_total id_apart count m.objects (record { 0 = m.next }) object none

pub counts-without_object :
    (m : Machine) (id : ObjId) (object : Object) → object_of m id ≡ Some object
    → counts_in m ≡ one_more (counts_in (without_object m id)) object
unfolding without_object object_of
counts-without_object m id object is =
    same_counts _ _
    (objects-sum m ∙ parts (λ _. 1) ∙ ap (λ n. n + 1) (sym (objects-sum (without_object m id))))
    (slots-sum m ∙ parts slot_count ∙ ap (λ n. n + slot_count object) (sym (slots-sum (without_object m id))))
    (threads-sum m ∙ parts thread_count ∙ ap (λ n. n + thread_count object) (sym (threads-sum (without_object m id))))
  where
    parts :
        (count : Object → ℕ) → sum_of count m.objects ≡ sum_of count (finite.remove m.objects id) + count object
    parts count = sum-remove id_total id_apart count m.objects id object is

pub less_one_more : (counts : Counts) (object : Object) → one_less (one_more counts object) object ≡ counts
less_one_more counts object = same_counts _ _ (omega arith) (omega arith) (omega arith)

pub counts-with_object :
    (m : Machine) (id : ObjId) (old object : Object) → object_of m id ≡ Some old → slot_count object ≡ slot_count old
    → thread_count object ≡ thread_count old → counts_in (with_object m id object) ≡ counts_in m
unfolding with_object object_of
counts-with_object m id old object is slots threads =
    same_counts _ _
    (objects-sum (with_object m id object) ∙ set (λ _. 1) refl ∙ sym (objects-sum m))
    (slots-sum (with_object m id object) ∙ set slot_count slots ∙ sym (slots-sum m))
    (threads-sum (with_object m id object) ∙ set thread_count threads ∙ sym (threads-sum m))
  where
    set :
        (count : Object → ℕ) → count object ≡ count old
        → sum_of count (finite.insert m.objects id object) ≡ sum_of count m.objects
    set count same = sum-set id_total id_apart count m.objects id old object is same

pub counts-with_cap : (m : Machine) (slot : SlotRef) (held : Cap) → counts_in (with_cap m slot held) ≡ counts_in m
unfolding objects_in slots_in threads_in with_cap
counts-with_cap m slot held = refl

pub counts-without_cap : (m : Machine) (slot : SlotRef) → counts_in (without_cap m slot) ≡ counts_in m
unfolding objects_in slots_in threads_in without_cap
counts-without_cap m slot = refl

pub counts-with_parent : (m : Machine) (slot parent : SlotRef) → counts_in (with_parent m slot parent) ≡ counts_in m
unfolding objects_in slots_in threads_in with_parent
counts-with_parent m slot parent = refl

pub counts-without_parent : (m : Machine) (slot : SlotRef) → counts_in (without_parent m slot) ≡ counts_in m
unfolding objects_in slots_in threads_in without_parent
counts-without_parent m slot = refl

counts-with_words : (m : Machine) (id : ObjId) (words : List ℕ) → counts_in (with_words m id words) ≡ counts_in m
unfolding objects_in slots_in threads_in with_words
counts-with_words m id words = refl

pub counts-with_word : (m : Machine) (id : ObjId) (index word : ℕ) → counts_in (with_word m id index word) ≡ counts_in m
unfolding with_word
counts-with_word m id index word = by_words (words_of m id) refl where
  by_words : (o : Option (List ℕ)) → words_of m id ≡ o → counts_in (with_word m id index word) ≡ counts_in m
  by_words None is = rw is refl
  by_words (Some words) is = rw is (counts-with_words m id _)

counts-with_queue : (m : Machine) (id : ObjId) (threads : List ObjId) → counts_in (with_queue m id threads) ≡ counts_in m
unfolding objects_in slots_in threads_in with_queue
counts-with_queue m id threads = refl

pub counts-with_waiting : (m : Machine) (id thread : ObjId) → counts_in (with_waiting m id thread) ≡ counts_in m
unfolding with_waiting
counts-with_waiting m id thread = by_queue (queue_of m id) refl where
  by_queue : (o : Option (List ObjId)) → queue_of m id ≡ o → counts_in (with_waiting m id thread) ≡ counts_in m
  by_queue None is = rw is refl
  by_queue (Some threads) is = rw is (counts-with_queue m id _)

pub counts-without_waiting : (m : Machine) (id thread : ObjId) → counts_in (without_waiting m id thread) ≡ counts_in m
unfolding without_waiting
counts-without_waiting m id thread = by_queue (queue_of m id) refl where
  by_queue : (o : Option (List ObjId)) → queue_of m id ≡ o → counts_in (without_waiting m id thread) ≡ counts_in m
  by_queue None is = rw is refl
  by_queue (Some threads) is = rw is (counts-with_queue m id _)

-- one object has no more slots than a CNode can have, and is one thread at most

pub few_slots : (object : Object) → HasRadix object → slot_count object ≤ 2 ^ 12
few_slots (o.CNode node) radix = pow_mono radix.1
few_slots (o.Tcb _) radix = omega arith
few_slots _ radix = omega arith

pub few_threads : (object : Object) → thread_count object ≤ 1
few_threads (o.Tcb _) = omega arith
few_threads _ = omega arith
