-- Look-ups after each change: only what was changed has another answer. Objects and slots are totally ordered by their numbers.
use Rattle.std.specs.{declared.cmp.Ordering.{Ordering, TheVariants.{Equal, Greater, Less}}, Cmp.{Equal-is, IsTotalOrder}}
use Rattle.std.specs.{Cmp.{nat_cmp_total, on_total, then_total}, FinMap.{IsAntisymmetric, nat_cmp-IsAntisymmetric, same_map}}
use Rattle.std.specs.{Ordering.{is_eq, nat_cmp, ordering_then}, Prelude.{[], ◌≡◌, List, None, Some, cond, refl, replicate, true}}
use Rattle.{std.proofs.Common.{T, ap, subst, sym}, base.specs.declared.ids.{ObjId.ObjId, SlotRef.SlotRef}}
use Rattle.machine.specs.declared.{cap.Cap.Cap, object.Object.Object}
use Rattle.machine.specs.Machine.{Machine, cap_of, empty_machine, id_cmp, object_of, parent_of, queue_of, same_id, same_slot}
use Rattle.machine.specs.{Machine.{slot_cmp, with_cap, with_new, with_object, with_parent, with_queue, words_of}, Objects.word_count}
use Rattle.std.specs.FinMap as map

pub id_total : IsTotalOrder id_cmp
id_total = on_total (λ (id : ObjId). id.0) nat_cmp_total

pub slot_total : IsTotalOrder slot_cmp
slot_total =
    then_total (on_total (λ (slot : SlotRef). slot.holder) id_total) (on_total (λ (slot : SlotRef). slot.index) nat_cmp_total)

pub object_of-with_object :
    (m : Machine) (id : ObjId) (object : Object) (q : ObjId)
    → object_of (with_object m id object) q ≡ cond (same_id q id) (Some object) (object_of m q)
unfolding object_of with_object
object_of-with_object m id object q = map.get-insert id_total m.objects id object q

pub object_of-with_queue :
    (m : Machine) (id : ObjId) (threads : List ObjId) (q : ObjId) → object_of (with_queue m id threads) q ≡ object_of m q
unfolding object_of with_queue
object_of-with_queue m id threads q = refl

pub object_of-with_cap :
    (m : Machine) (slot : SlotRef) (filling : Cap) (q : ObjId) → object_of (with_cap m slot filling) q ≡ object_of m q
unfolding object_of with_cap
object_of-with_cap m slot filling q = refl

pub object_of-with_parent :
    (m : Machine) (slot parent : SlotRef) (q : ObjId) → object_of (with_parent m slot parent) q ≡ object_of m q
unfolding object_of with_parent
object_of-with_parent m slot parent q = refl

pub object_of-with_new :
    (m : Machine) (object : Object) (q : ObjId)
    → object_of (with_new m object) q ≡ cond (same_id q (record { 0 = m.next })) (Some object) (object_of m q)
unfolding object_of with_new
object_of-with_new m object q = map.get-insert id_total m.objects (record { 0 = m.next }) object q

pub queue_of-with_object :
    (m : Machine) (id : ObjId) (object : Object) (q : ObjId) → queue_of (with_object m id object) q ≡ queue_of m q
unfolding queue_of with_object
queue_of-with_object m id object q = refl

pub queue_of-with_queue :
    (m : Machine) (id : ObjId) (threads : List ObjId) (q : ObjId)
    → queue_of (with_queue m id threads) q ≡ cond (same_id q id) (Some threads) (queue_of m q)
unfolding queue_of with_queue
queue_of-with_queue m id threads q = map.get-insert id_total m.queues id threads q

pub queue_of-with_cap :
    (m : Machine) (slot : SlotRef) (filling : Cap) (q : ObjId) → queue_of (with_cap m slot filling) q ≡ queue_of m q
unfolding queue_of with_cap
queue_of-with_cap m slot filling q = refl

pub queue_of-with_parent :
    (m : Machine) (slot parent : SlotRef) (q : ObjId) → queue_of (with_parent m slot parent) q ≡ queue_of m q
unfolding queue_of with_parent
queue_of-with_parent m slot parent q = refl

pub queue_of-with_new :
    (m : Machine) (object : Object) (q : ObjId)
    → queue_of (with_new m object) q ≡ cond (same_id q (record { 0 = m.next })) (Some []) (queue_of m q)
unfolding queue_of with_new
queue_of-with_new m object q = map.get-insert id_total m.queues (record { 0 = m.next }) [] q

pub words_of-with_object :
    (m : Machine) (id : ObjId) (object : Object) (q : ObjId) → words_of (with_object m id object) q ≡ words_of m q
unfolding words_of with_object
words_of-with_object m id object q = refl

pub words_of-with_queue :
    (m : Machine) (id : ObjId) (threads : List ObjId) (q : ObjId) → words_of (with_queue m id threads) q ≡ words_of m q
unfolding words_of with_queue
words_of-with_queue m id threads q = refl

pub words_of-with_cap :
    (m : Machine) (slot : SlotRef) (filling : Cap) (q : ObjId) → words_of (with_cap m slot filling) q ≡ words_of m q
unfolding words_of with_cap
words_of-with_cap m slot filling q = refl

pub words_of-with_parent :
    (m : Machine) (slot parent : SlotRef) (q : ObjId) → words_of (with_parent m slot parent) q ≡ words_of m q
unfolding words_of with_parent
words_of-with_parent m slot parent q = refl

pub words_of-with_new :
    (m : Machine) (object : Object) (q : ObjId)
    → words_of (with_new m object) q
    ≡ cond (same_id q (record { 0 = m.next })) (Some (replicate (word_count object) 0)) (words_of m q)
unfolding words_of with_new
words_of-with_new m object q = map.get-insert id_total m.words (record { 0 = m.next }) (replicate (word_count object) 0) q

pub cap_of-with_object :
    (m : Machine) (id : ObjId) (object : Object) (q : SlotRef) → cap_of (with_object m id object) q ≡ cap_of m q
unfolding cap_of with_object
cap_of-with_object m id object q = refl

pub cap_of-with_queue :
    (m : Machine) (id : ObjId) (threads : List ObjId) (q : SlotRef) → cap_of (with_queue m id threads) q ≡ cap_of m q
unfolding cap_of with_queue
cap_of-with_queue m id threads q = refl

pub cap_of-with_cap :
    (m : Machine) (slot : SlotRef) (filling : Cap) (q : SlotRef)
    → cap_of (with_cap m slot filling) q ≡ cond (same_slot q slot) (Some filling) (cap_of m q)
unfolding cap_of with_cap
cap_of-with_cap m slot filling q = map.get-insert slot_total m.caps slot filling q

pub cap_of-with_parent : (m : Machine) (slot parent : SlotRef) (q : SlotRef) → cap_of (with_parent m slot parent) q ≡ cap_of m q
unfolding cap_of with_parent
cap_of-with_parent m slot parent q = refl

pub cap_of-with_new : (m : Machine) (object : Object) (q : SlotRef) → cap_of (with_new m object) q ≡ cap_of m q
unfolding cap_of with_new
cap_of-with_new m object q = refl

pub parent_of-with_object :
    (m : Machine) (id : ObjId) (object : Object) (q : SlotRef) → parent_of (with_object m id object) q ≡ parent_of m q
unfolding parent_of with_object
parent_of-with_object m id object q = refl

pub parent_of-with_queue :
    (m : Machine) (id : ObjId) (threads : List ObjId) (q : SlotRef) → parent_of (with_queue m id threads) q ≡ parent_of m q
unfolding parent_of with_queue
parent_of-with_queue m id threads q = refl

pub parent_of-with_cap :
    (m : Machine) (slot : SlotRef) (filling : Cap) (q : SlotRef) → parent_of (with_cap m slot filling) q ≡ parent_of m q
unfolding parent_of with_cap
parent_of-with_cap m slot filling q = refl

pub parent_of-with_parent :
    (m : Machine) (slot parent : SlotRef) (q : SlotRef)
    → parent_of (with_parent m slot parent) q ≡ cond (same_slot q slot) (Some parent) (parent_of m q)
unfolding parent_of with_parent
parent_of-with_parent m slot parent q = map.get-insert slot_total m.parents slot parent q

pub parent_of-with_new : (m : Machine) (object : Object) (q : SlotRef) → parent_of (with_new m object) q ≡ parent_of m q
unfolding parent_of with_new
parent_of-with_new m object q = refl

pub number_of-with_object : (m : Machine) (id : ObjId) (object : Object) → (with_object m id object).next ≡ m.next
unfolding with_object
number_of-with_object m id object = refl

pub number_of-with_queue : (m : Machine) (id : ObjId) (threads : List ObjId) → (with_queue m id threads).next ≡ m.next
unfolding with_queue
number_of-with_queue m id threads = refl

pub going-with_object : (m : Machine) (id : ObjId) (object : Object) → (with_object m id object).going ≡ m.going
unfolding with_object
going-with_object m id object = refl

-- nothing is there in the empty machine
pub object_of-empty : (q : ObjId) → object_of empty_machine q ≡ None
unfolding object_of empty_machine
object_of-empty q = map.get-empty id_cmp q

pub queue_of-empty : (q : ObjId) → queue_of empty_machine q ≡ None
unfolding queue_of empty_machine
queue_of-empty q = map.get-empty id_cmp q

pub words_of-empty : (q : ObjId) → words_of empty_machine q ≡ None
unfolding words_of empty_machine
words_of-empty q = map.get-empty id_cmp q

pub cap_of-empty : (q : SlotRef) → cap_of empty_machine q ≡ None
unfolding cap_of empty_machine
cap_of-empty q = map.get-empty slot_cmp q

pub parent_of-empty : (q : SlotRef) → parent_of empty_machine q ≡ None
unfolding parent_of empty_machine
parent_of-empty q = map.get-empty slot_cmp q

-- two ids that tie are equal, and so are two slots

pub id_apart : IsAntisymmetric id_cmp
id_apart a b e = let same : a.0 ≡ b.0 = nat_cmp-IsAntisymmetric a.0 b.0 e in ap (λ n. record { 0 = n }) same

pub slot_apart : IsAntisymmetric slot_cmp
slot_apart a b e = apart a b _ e refl where
  apart :
      (a b : SlotRef) (first : Ordering) → ordering_then first (nat_cmp a.index b.index) ≡ Equal
      → id_cmp a.holder b.holder ≡ first → a ≡ b
  apart a b Equal e h =
      λ i. record { holder = id_apart a.holder b.holder h i; index = nat_cmp-IsAntisymmetric a.index b.index e i }
  apart a b Less e h = absurd (subst (λ r. T (is_eq r)) (sym e) tt)
  apart a b Greater e h = absurd (subst (λ r. T (is_eq r)) (sym e) tt)

pub one_id : (a b : ObjId) → same_id a b ≡ true → a ≡ b
one_id a b tie = id_apart a b ((Equal-is (id_cmp a b)).0 tie)

pub one_slot : (a b : SlotRef) → same_slot a b ≡ true → a ≡ b
one_slot a b tie = slot_apart a b ((Equal-is (slot_cmp a b)).0 tie)

pub same_machine :
    (m n : Machine) → ((q : ObjId) → object_of m q ≡ object_of n q) → ((q : ObjId) → queue_of m q ≡ queue_of n q)
    → ((q : ObjId) → words_of m q ≡ words_of n q)
    → ((q : SlotRef) → cap_of m q ≡ cap_of n q) → ((q : SlotRef) → parent_of m q ≡ parent_of n q) → m.next ≡ n.next → m.going ≡ n.going
    → m ≡ n
unfolding object_of queue_of words_of cap_of parent_of
same_machine m n objects queues words caps parents next going =
    λ i.
    record {
      objects = same_map id_total id_apart m.objects n.objects objects i;
      queues = same_map id_total id_apart m.queues n.queues queues i;
      words = same_map id_total id_apart m.words n.words words i;
      caps = same_map slot_total slot_apart m.caps n.caps caps i;
      parents = same_map slot_total slot_apart m.parents n.parents parents i;
      next = next i;
      going = going i;
    }
