-- Objects to which nothing holds are removed one after another.
use Rattle.std.specs.{List.list_any, Prelude.{◌||◌, Contains, IsSome, None, Option, Some, option_and_then, slice_get}}
use Rattle.std.proofs.Common.{[], ℕ, ◌+◌, ◌∙◌, ◌∷◌, ◌≡◌, ◌≤◌, Bool, List, ap, arith, cond, false, inl, inr, length, refl, subst}
use Rattle.std.proofs.{Common.{suc, sym, take, true, zero}, lemmas.Option.{get_or_from_slice_get, same_Some, slice_get_within}}
use Rattle.base.specs.declared.ids.{ObjId.ObjId, SlotRef.SlotRef}
use Rattle.machine.specs.{declared.cap.Cap.Cap, Changes.{first_waiting, with_none_going, without_object}}
use Rattle.machine.specs.Machine.{Machine, cap_of, object_of, parent_of, queue_of, same_id, words_of}
use Rattle.machine.proofs.ObjectGone.{cap_of-without_object, caps_to-without_object, next-without_object, object_of-without_object}
use Rattle.machine.proofs.ObjectGone.{parent_of-without_object, queue_of-without_object, words_of-without_object}
use Rattle.{objects.specs.Pairs.{AreFilled, AreFilledOrGoing, IsFilledOrGoing}, removal.specs.Dropping.{IsCutOff, dropped, without_objects}}

-- nobody starts to wait at an object when another is removed
nobody_waits : (m : Machine) (gone id : ObjId) → first_waiting m id ≡ None → first_waiting (without_object m gone) id ≡ None
unfolding first_waiting
nobody_waits m gone id none =
    ap (option_and_then (λ threads. slice_get threads 0)) (queue_of-without_object m gone id) ∙ by_tie (same_id id gone)
  where
    by_tie : (tie : Bool) → option_and_then (λ threads. slice_get threads 0) (cond tie None (queue_of m id)) ≡ None
    by_tie true = refl
    by_tie false = none

-- nothing starts to hold to it
pub cut_off_stays : (m : Machine) (gone id : ObjId) → IsCutOff m id → IsCutOff (without_object m gone) id
cut_off_stays m gone id cut =
    record {
      unheld = caps_to-without_object m gone id ∙ cut.unheld;
      hollow = λ slot its_own. cap_of-without_object m gone slot ∙ cut.hollow slot its_own;
      alone =
          λ slot its_own.
          record {
            root = parent_of-without_object m gone slot ∙ (cut.alone slot its_own).root;
            leaf = λ child is. (cut.alone slot its_own).leaf child (sym (parent_of-without_object m gone child) ∙ is);
          };
      deserted = nobody_waits m gone id cut.deserted;
      free = λ at threads is. cut.free at threads (was at threads (same_id at gone) (sym (queue_of-without_object m gone at) ∙ is));
    }
  where
    was : (at : ObjId) (threads : List ObjId) (tie : Bool) → cond tie None (queue_of m at) ≡ Some threads → queue_of m at ≡ Some threads
    was at threads true is = let none : None ≡ Some threads = is in cc
    was at threads false is = is

-- one more object is removed

next_gone :
    (m : Machine) (ids : List ObjId) (index : ℕ) (id : ObjId) → slice_get ids index ≡ Some id
    → without_objects m (take (suc index) ids) ≡ without_object (without_objects m (take index ids)) id
next_gone m [] index id is = let none : None ≡ Some id = is in cc
next_gone m (first ∷ ids) zero id is = ap (without_object m) (same_Some first id is)
next_gone m (first ∷ ids) (suc index) id is = next_gone (without_object m first) ids index id is

pub one_more_gone :
    (m : Machine) (ids : List ObjId) (index : ℕ) (id : ObjId) → slice_get ids index ≡ Some id
    → without_objects m (take (index + 1) ids) ≡ without_object (without_objects m (take index ids)) id
one_more_gone m ids index id is =
    let more : index + 1 ≡ suc index = omega arith in
    ap (λ count. without_objects m (take count ids)) more ∙ next_gone m ids index id is

pub all_taken : (ids : List ObjId) (index : ℕ) → length ids ≤ index → take index ids ≡ ids
all_taken [] zero most = refl
all_taken [] (suc index) most = refl
all_taken (first ∷ ids) zero most = absurd (omega (arith, most))
all_taken (first ∷ ids) (suc index) most = ap (λ rest. first ∷ rest) (all_taken ids index (omega (arith, most)))

pub none_past : (ids : List ObjId) (index : ℕ) → slice_get ids index ≡ None → length ids ≤ index
none_past [] index none = omega arith
none_past (first ∷ ids) zero none = let some : Some first ≡ None = none in absurd (cc)
none_past (first ∷ ids) (suc index) none = let rest = none_past ids index none in omega (arith, rest)

pub listed_at : (ids : List ObjId) (index : ℕ) (id : ObjId) → slice_get ids index ≡ Some id → Contains ids id
listed_at ids index id is = (index, slice_get_within ids index id is, get_or_from_slice_get ids index id id is)

-- each look-up after objects were removed

gone_twice : {A : Type 0} (first rest : Bool) (o : Option A) → cond rest None (cond first None o) ≡ cond (first || rest) None o
gone_twice true true o = refl
gone_twice true false o = refl
gone_twice false rest o = refl

pub object_of-without_objects :
    (m : Machine) (ids : List ObjId) (id : ObjId)
    → object_of (without_objects m ids) id ≡ cond (list_any (same_id id) ids) None (object_of m id)
object_of-without_objects m [] id = refl
object_of-without_objects m (first ∷ ids) id =
    object_of-without_objects (without_object m first) ids id
    ∙ ap (cond (list_any (same_id id) ids) None) (object_of-without_object m first id)
    ∙ gone_twice (same_id id first) (list_any (same_id id) ids) (object_of m id)

pub queue_of-without_objects :
    (m : Machine) (ids : List ObjId) (id : ObjId)
    → queue_of (without_objects m ids) id ≡ cond (list_any (same_id id) ids) None (queue_of m id)
queue_of-without_objects m [] id = refl
queue_of-without_objects m (first ∷ ids) id =
    queue_of-without_objects (without_object m first) ids id
    ∙ ap (cond (list_any (same_id id) ids) None) (queue_of-without_object m first id)
    ∙ gone_twice (same_id id first) (list_any (same_id id) ids) (queue_of m id)

pub words_of-without_objects :
    (m : Machine) (ids : List ObjId) (id : ObjId)
    → words_of (without_objects m ids) id ≡ cond (list_any (same_id id) ids) None (words_of m id)
words_of-without_objects m [] id = refl
words_of-without_objects m (first ∷ ids) id =
    words_of-without_objects (without_object m first) ids id
    ∙ ap (cond (list_any (same_id id) ids) None) (words_of-without_object m first id)
    ∙ gone_twice (same_id id first) (list_any (same_id id) ids) (words_of m id)

pub cap_of-without_objects : (m : Machine) (ids : List ObjId) (slot : SlotRef) → cap_of (without_objects m ids) slot ≡ cap_of m slot
cap_of-without_objects m [] slot = refl
cap_of-without_objects m (first ∷ ids) slot =
    cap_of-without_objects (without_object m first) ids slot ∙ cap_of-without_object m first slot

pub parent_of-without_objects :
    (m : Machine) (ids : List ObjId) (slot : SlotRef) → parent_of (without_objects m ids) slot ≡ parent_of m slot
parent_of-without_objects m [] slot = refl
parent_of-without_objects m (first ∷ ids) slot =
    parent_of-without_objects (without_object m first) ids slot ∙ parent_of-without_object m first slot

pub next-without_objects : (m : Machine) (ids : List ObjId) → (without_objects m ids).next ≡ m.next
next-without_objects m [] = refl
next-without_objects m (first ∷ ids) = next-without_objects (without_object m first) ids ∙ next-without_object m first

-- all pairs join filled slots if nothing holds to what is going, also after that is removed

pub filled_beside_cut_off : (m : Machine) → AreFilledOrGoing m → ((id : ObjId) → Contains m.going id → IsCutOff m id) → AreFilled m
filled_beside_cut_off m paired cut =
    record {
      below = λ slot parent at. by_low slot parent at (paired.below slot parent at);
      above = λ slot parent at. by_high slot parent at (paired.above slot parent at);
    } where
      by_low : (slot parent : SlotRef) → parent_of m slot ≡ Some parent → IsFilledOrGoing m slot → IsSome (cap_of m slot)
      by_low slot parent at (inl filled) = filled
      by_low slot parent at (inr listed) = (let root = ((cut slot.holder listed).alone slot refl).root in cc)

      by_high : (slot parent : SlotRef) → parent_of m slot ≡ Some parent → IsFilledOrGoing m parent → IsSome (cap_of m parent)
      by_high slot parent at (inl filled) = filled
      by_high slot parent at (inr listed) = absurd (((cut parent.holder listed).alone parent refl).leaf slot at)

pub filled_without : (m : Machine) (ids : List ObjId) → AreFilled m → AreFilled (without_objects m ids)
filled_without m ids filled =
    record {
      below = λ slot parent at. some slot (filled.below slot parent (sym (parent_of-without_objects m ids slot) ∙ at));
      above = λ slot parent at. some parent (filled.above slot parent (sym (parent_of-without_objects m ids slot) ∙ at));
    } where
      some : (slot : SlotRef) → IsSome (cap_of m slot) → IsSome (cap_of (without_objects m ids) slot)
      some slot is = subst (λ (o : Option Cap). IsSome o) (sym (cap_of-without_objects m ids slot)) is

-- a machine is another without the objects that were going, and nothing is going
pub record IsWithout (m : Machine) (ids : List ObjId) (next : Machine) : Type 0 where
  pub objects : (id : ObjId) → object_of next id ≡ cond (list_any (same_id id) ids) None (object_of m id)
  pub queues : (id : ObjId) → queue_of next id ≡ cond (list_any (same_id id) ids) None (queue_of m id)
  pub words : (id : ObjId) → words_of next id ≡ cond (list_any (same_id id) ids) None (words_of m id)
  pub caps : (slot : SlotRef) → cap_of next slot ≡ cap_of m slot
  pub parents : (slot : SlotRef) → parent_of next slot ≡ parent_of m slot
  pub number : next.next ≡ m.next
  pub going : next.going ≡ []

pub dropped_looks : (m : Machine) → IsWithout m m.going (dropped m)
unfolding with_none_going object_of queue_of words_of cap_of parent_of
dropped_looks m =
    record {
      objects = object_of-without_objects m m.going;
      queues = queue_of-without_objects m m.going;
      words = words_of-without_objects m m.going;
      caps = cap_of-without_objects m m.going;
      parents = parent_of-without_objects m m.going;
      number = next-without_objects m m.going;
      going = refl;
    }
