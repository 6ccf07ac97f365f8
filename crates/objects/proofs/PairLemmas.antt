-- The pairs of the derivation tree join slots that are filled or whose holders are going, also after each change.
use Rattle.std.specs.FinMap as map
use Rattle.std.{specs.{List.fold, Prelude.{Contains, IsSome, None, Option, Some}}, proofs.Common.{[], ℕ, ◌∙◌, ◌∷◌, ◌≡◌, ◌≢◌, Bool}}
use Rattle.std.proofs.{Common.{List, ap, cond, false, inl, inr, refl, subst, sym, true}, lemmas.List.Elements.Contains-append_left}
use Rattle.{std.proofs.lemmas.Option.same_Some, base.specs.declared.ids.{ObjId.ObjId, SlotRef.SlotRef}}
use Rattle.machine.specs.declared.{cap.Cap.Cap, object.Object.Object}
use Rattle.machine.specs.Changes.{with_going, with_none_going, with_waiting, with_word, with_words, without_object, without_waiting}
use Rattle.machine.specs.Machine.{Machine, cap_of, empty_machine, parent_of, queue_of, same_slot, with_cap, with_new}
use Rattle.machine.specs.{Machine.{with_object, with_parent, with_queue, without_cap, without_parent, words_of}, Tree.IsAlone}
use Rattle.machine.proofs.LookUps.{cap_of-with_cap, one_slot, parent_of-empty, parent_of-with_parent, slot_total}
use Rattle.objects.specs.Pairs.{AreFilled, AreFilledOrGoing, IsFilledOrGoing, MayEmpty}

-- a change that makes no pair keeps this if each filled or going slot stays so
kept :
    (m n : Machine) → ((slot parent : SlotRef) → parent_of n slot ≡ Some parent → parent_of m slot ≡ Some parent)
    → ((slot : SlotRef) → IsFilledOrGoing m slot → IsFilledOrGoing n slot) → AreFilledOrGoing m → AreFilledOrGoing n
kept m n was so paired =
    record {
      below = λ slot parent at. so slot (paired.below slot parent (was slot parent at));
      above = λ slot parent at. so parent (paired.above slot parent (was slot parent at));
    }

-- changes of neither slots, nor pairs, nor what is going

pub paired-with_object : (m : Machine) (id : ObjId) (object : Object) → AreFilledOrGoing m → AreFilledOrGoing (with_object m id object)
unfolding cap_of parent_of with_object
paired-with_object m id object paired = record { below = paired.below; above = paired.above }

pub paired-with_new : (m : Machine) (object : Object) → AreFilledOrGoing m → AreFilledOrGoing (with_new m object)
unfolding cap_of parent_of with_new
paired-with_new m object paired = record { below = paired.below; above = paired.above }

pub paired-without_object : (m : Machine) (id : ObjId) → AreFilledOrGoing m → AreFilledOrGoing (without_object m id)
unfolding cap_of parent_of without_object
paired-without_object m id paired = record { below = paired.below; above = paired.above }

paired-with_queue : (m : Machine) (id : ObjId) (threads : List ObjId) → AreFilledOrGoing m → AreFilledOrGoing (with_queue m id threads)
unfolding cap_of parent_of with_queue
paired-with_queue m id threads paired = record { below = paired.below; above = paired.above }

pub paired-with_waiting : (m : Machine) (id thread : ObjId) → AreFilledOrGoing m → AreFilledOrGoing (with_waiting m id thread)
unfolding with_waiting
paired-with_waiting m id thread paired = by_queue (queue_of m id) refl where
  by_queue : (o : Option (List ObjId)) → queue_of m id ≡ o → AreFilledOrGoing (with_waiting m id thread)
  by_queue None is = rw is paired
  by_queue (Some threads) is = rw is (paired-with_queue m id _ paired)

pub paired-without_waiting : (m : Machine) (id thread : ObjId) → AreFilledOrGoing m → AreFilledOrGoing (without_waiting m id thread)
unfolding without_waiting
paired-without_waiting m id thread paired = by_queue (queue_of m id) refl where
  by_queue : (o : Option (List ObjId)) → queue_of m id ≡ o → AreFilledOrGoing (without_waiting m id thread)
  by_queue None is = rw is paired
  by_queue (Some threads) is = rw is (paired-with_queue m id _ paired)

paired-with_words : (m : Machine) (id : ObjId) (words : List ℕ) → AreFilledOrGoing m → AreFilledOrGoing (with_words m id words)
unfolding cap_of parent_of with_words
paired-with_words m id words paired = record { below = paired.below; above = paired.above }

pub paired-with_word : (m : Machine) (id : ObjId) (index word : ℕ) → AreFilledOrGoing m → AreFilledOrGoing (with_word m id index word)
unfolding with_word
paired-with_word m id index word paired = by_words (words_of m id) refl where
  by_words : (o : Option (List ℕ)) → words_of m id ≡ o → AreFilledOrGoing (with_word m id index word)
  by_words None is = rw is paired
  by_words (Some words) is = rw is (paired-with_words m id _ paired)

pub paired-empty : AreFilledOrGoing empty_machine
paired-empty =
    record {
      below = λ slot parent at. (let none = parent_of-empty slot in cc);
      above = λ slot parent at. (let none = parent_of-empty slot in cc);
    }

-- a capability is put into a slot or taken out

pairs-with_cap : (m : Machine) (slot : SlotRef) (held : Cap) (q : SlotRef) → parent_of (with_cap m slot held) q ≡ parent_of m q
unfolding parent_of with_cap
pairs-with_cap m slot held q = refl

going-with_cap : (m : Machine) (slot : SlotRef) (held : Cap) → (with_cap m slot held).going ≡ m.going
unfolding with_cap
going-with_cap m slot held = refl

pub paired-with_cap : (m : Machine) (slot : SlotRef) (held : Cap) → AreFilledOrGoing m → AreFilledOrGoing (with_cap m slot held)
paired-with_cap m slot held =
    kept m (with_cap m slot held) (λ q parent at. sym (pairs-with_cap m slot held q) ∙ at) so
  where
    filled : (tie : Bool) (o : Option Cap) → IsSome o → IsSome (cond tie (Some held) o)
    filled true o some = refl
    filled false o some = some

    so : (q : SlotRef) → IsFilledOrGoing m q → IsFilledOrGoing (with_cap m slot held) q
    so q (inl some) =
        inl
        (subst (λ (o : Option Cap). IsSome o) (sym (cap_of-with_cap m slot held q)) (filled (same_slot q slot) (cap_of m q) some))
    so q (inr listed) = inr (subst (λ (ids : List ObjId). Contains ids q.holder) (sym (going-with_cap m slot held)) listed)

module _ (m : Machine) (slot : SlotRef) (may : MayEmpty m slot) where
  pairs_left : (q parent : SlotRef) → parent_of (without_cap m slot) q ≡ Some parent → parent_of m q ≡ Some parent
  unfolding parent_of without_cap
  pairs_left q parent at = at

  caps_left : (q : SlotRef) → cap_of (without_cap m slot) q ≡ cond (same_slot q slot) None (cap_of m q)
  unfolding cap_of without_cap
  caps_left q = map.get-remove slot_total m.caps slot q

  going_left : (q : SlotRef) → Contains m.going q.holder → Contains (without_cap m slot).going q.holder
  unfolding without_cap
  going_left q listed = listed

  -- a slot in a pair isn't the one that is emptied, unless its holder is going
  emptied : (q : SlotRef) → (IsAlone m slot → q ≢ slot) → q ≡ slot → IsFilledOrGoing (without_cap m slot) q
  emptied q apart same = by_place may where
    by_place : MayEmpty m slot → IsFilledOrGoing (without_cap m slot) q
    by_place (inl free) = absurd (apart free same)
    by_place (inr listed) = inr (going_left q (subst (λ (s : SlotRef). Contains m.going s.holder) (sym same) listed))

  still : (q : SlotRef) → (IsAlone m slot → q ≢ slot) → IsFilledOrGoing m q → IsFilledOrGoing (without_cap m slot) q
  still q apart (inl some) = by_tie (same_slot q slot) refl where
    by_tie : (tie : Bool) → same_slot q slot ≡ tie → IsFilledOrGoing (without_cap m slot) q
    by_tie true is = emptied q apart (one_slot q slot is)
    by_tie false is =
        inl
        (subst (λ (o : Option Cap). IsSome o) (sym (caps_left q ∙ ap (λ tie. cond {A = Option Cap} tie None (cap_of m q)) is)) some)
  still q apart (inr listed) = inr (going_left q listed)

  rooted : (q parent : SlotRef) → parent_of m q ≡ Some parent → IsAlone m slot → q ≢ slot
  rooted q parent at free same = let none : parent_of m q ≡ None = ap (parent_of m) same ∙ free.root in cc

  pub paired-without_cap : AreFilledOrGoing m → AreFilledOrGoing (without_cap m slot)
  paired-without_cap paired =
      record {
        below = λ q parent at. let was = pairs_left q parent at in still q (rooted q parent was) (paired.below q parent was);
        above =
            λ q parent at.
            let was = pairs_left q parent at in
            still parent (λ free same. free.leaf q (was ∙ ap Some same)) (paired.above q parent was);
      }

-- a pair is made or removed

pub place-with_parent : (m : Machine) (slot parent q : SlotRef) → IsFilledOrGoing m q → IsFilledOrGoing (with_parent m slot parent) q
unfolding cap_of with_parent
place-with_parent m slot parent q so = so

pub place-without_parent : (m : Machine) (slot q : SlotRef) → IsFilledOrGoing m q → IsFilledOrGoing (without_parent m slot) q
unfolding cap_of without_parent
place-without_parent m slot q so = so

pub paired-with_parent :
    (m : Machine) (slot parent : SlotRef) → IsFilledOrGoing m slot → IsFilledOrGoing m parent → AreFilledOrGoing m
    → AreFilledOrGoing (with_parent m slot parent)
paired-with_parent m slot parent low high paired =
    record {
      below = λ q p at. place-with_parent m slot parent q (by_tie q p (same_slot q slot) refl (sym (parent_of-with_parent m slot parent q) ∙ at)).0;
      above = λ q p at. place-with_parent m slot parent p (by_tie q p (same_slot q slot) refl (sym (parent_of-with_parent m slot parent q) ∙ at)).1;
    } where
      by_tie :
          (q p : SlotRef) (tie : Bool) → same_slot q slot ≡ tie → cond tie (Some parent) (parent_of m q) ≡ Some p
          → IsFilledOrGoing m q × IsFilledOrGoing m p
      by_tie q p true is at = (
        subst (IsFilledOrGoing m) (sym (one_slot q slot is)) low,
        subst (IsFilledOrGoing m) (same_Some parent p at) high,
      )
      by_tie q p false is at = (paired.below q p at, paired.above q p at)

parents_left :
    (m : Machine) (slot q : SlotRef) → parent_of (without_parent m slot) q ≡ cond (same_slot q slot) None (parent_of m q)
unfolding parent_of without_parent
parents_left m slot q = map.get-remove slot_total m.parents slot q

pub paired-without_parent : (m : Machine) (slot : SlotRef) → AreFilledOrGoing m → AreFilledOrGoing (without_parent m slot)
paired-without_parent m slot =
    kept m (without_parent m slot)
    (λ q p at. by_tie (same_slot q slot) (parent_of m q) p (sym (parents_left m slot q) ∙ at)) (place-without_parent m slot)
  where
    by_tie : (tie : Bool) (o : Option SlotRef) (p : SlotRef) → cond tie None o ≡ Some p → o ≡ Some p
    by_tie true o p at = (let impossible : None ≡ Some p = at in cc)
    by_tie false o p at = at

-- one more object is going, or none any more

pairs-with_going : (m : Machine) (id : ObjId) (q : SlotRef) → parent_of (with_going m id) q ≡ parent_of m q
unfolding parent_of with_going
pairs-with_going m id q = refl

place-with_going : (m : Machine) (id : ObjId) (q : SlotRef) → IsFilledOrGoing m q → IsFilledOrGoing (with_going m id) q
unfolding cap_of with_going
place-with_going m id q (inl some) = inl some
place-with_going m id q (inr listed) = inr (Contains-append_left m.going (id ∷ []) q.holder listed)

pub paired-with_going : (m : Machine) (id : ObjId) → AreFilledOrGoing m → AreFilledOrGoing (with_going m id)
paired-with_going m id =
    kept m (with_going m id) (λ q p at. sym (pairs-with_going m id q) ∙ at) (place-with_going m id)

pub paired-with_none_going : (m : Machine) → AreFilled m → AreFilledOrGoing (with_none_going m)
unfolding cap_of parent_of with_none_going
paired-with_none_going m filled =
    record { below = λ q p at. inl (filled.below q p at); above = λ q p at. inl (filled.above q p at) }

-- new objects are in no pair
pub paired-all_new : (m : Machine) (objects : List Object) → AreFilledOrGoing m → AreFilledOrGoing (fold with_new m objects)
paired-all_new m [] paired = paired
paired-all_new m (object ∷ objects) paired = paired-all_new (with_new m object) objects (paired-with_new m object paired)
