-- Look-ups after an object has gone: the object is missed, and nothing else is.
use Rattle.std.specs.FinMap as map
use Rattle.std.{specs.Prelude.{None, Option}, proofs.Common.{◌∙◌, ◌≡◌, ap, cond, refl, sym}}
use Rattle.base.specs.declared.ids.{ObjId.ObjId, SlotRef.SlotRef}
use Rattle.machine.specs.{Changes.without_object, Counts.caps_to, Machine.{Machine, cap_of, object_of, parent_of, queue_of, same_id}}
use Rattle.machine.{specs.Machine.words_of, proofs.{FiniteLemmas.by_key, LookUps.{id_apart, id_total, same_machine}}}

pub object_of-without_object :
    (m : Machine) (id q : ObjId) → object_of (without_object m id) q ≡ cond (same_id q id) None (object_of m q)
unfolding object_of without_object
object_of-without_object m id q = map.get-remove id_total m.objects id q

pub queue_of-without_object :
    (m : Machine) (id q : ObjId) → queue_of (without_object m id) q ≡ cond (same_id q id) None (queue_of m q)
unfolding queue_of without_object
queue_of-without_object m id q = map.get-remove id_total m.queues id q

pub words_of-without_object :
    (m : Machine) (id q : ObjId) → words_of (without_object m id) q ≡ cond (same_id q id) None (words_of m q)
unfolding words_of without_object
words_of-without_object m id q = map.get-remove id_total m.words id q

pub cap_of-without_object : (m : Machine) (id : ObjId) (q : SlotRef) → cap_of (without_object m id) q ≡ cap_of m q
unfolding cap_of without_object
cap_of-without_object m id q = refl

pub parent_of-without_object : (m : Machine) (id : ObjId) (q : SlotRef) → parent_of (without_object m id) q ≡ parent_of m q
unfolding parent_of without_object
parent_of-without_object m id q = refl

pub next-without_object : (m : Machine) (id : ObjId) → (without_object m id).next ≡ m.next
unfolding without_object
next-without_object m id = refl

pub going-without_object : (m : Machine) (id : ObjId) → (without_object m id).going ≡ m.going
unfolding without_object
going-without_object m id = refl

pub caps_to-without_object : (m : Machine) (gone id : ObjId) → caps_to (without_object m gone) id ≡ caps_to m id
unfolding caps_to without_object
caps_to-without_object m gone id = refl

-- removing an absent object changes no look-up

unseen : {X : Type 0} (find : ObjId → Option X) (id q : ObjId) → find id ≡ None → cond (same_id q id) None (find q) ≡ find q
unseen find id q none = sym (by_key id_total id_apart q id _ _ _ (λ same. ap find same ∙ none) (λ apart. refl))

pub without_absent :
    (m : Machine) (id : ObjId) → object_of m id ≡ None → queue_of m id ≡ None → words_of m id ≡ None → without_object m id ≡ m
without_absent m id object queue words =
    same_machine (without_object m id) m (λ q. object_of-without_object m id q ∙ unseen (object_of m) id q object)
    (λ q. queue_of-without_object m id q ∙ unseen (queue_of m) id q queue)
    (λ q. words_of-without_object m id q ∙ unseen (words_of m) id q words) (cap_of-without_object m id)
    (parent_of-without_object m id) (next-without_object m id) (going-without_object m id)
