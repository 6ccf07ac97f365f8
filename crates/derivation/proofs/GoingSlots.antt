-- Slots of the objects that a removal takes away: they are raised, and leave the tree, object by object.
use Rattle.std.specs.{Option.{is_none, is_some}, Prelude.{Contains, IsSome, IsTrue, None, Option, Some, slice_get}}
use Rattle.std.proofs.Common.{[], ℕ, ◌&&◌, ◌+◌, ◌||◌, ◌∙◌, ◌∷◌, ◌≡◌, ◌≤◌, ◌⊎◌, Bool, List, add-one, ap, arith, drop, drop-cons, false}
use Rattle.std.proofs.{Common.{inl, inr, length, refl, suc, sym, true, zero}, lemmas.{Bool.false≢true, Option.get_or_from_slice_get}}
use Rattle.{std.proofs.lemmas.Option.{slice_get_cases, slice_get_within}, base.specs.declared.ids.{ObjId.ObjId, SlotRef.SlotRef}}
use Rattle.machine.specs.{declared.cap.Cap.Cap, Machine.{Machine, cap_of, has_slot, object_of, parent_of}, Orphans.Nearest}
use Rattle.{machine.proofs.Ids.itself, objects.specs.Pairs.{AreFilledOrGoing, IsFilledOrGoing}}
use Rattle.derivation.specs.OwnSlots.{is_going_slot, is_slot_among, is_slot_of}
use Rattle.derivation.specs.{Raising.{AreRaised, AreRaisedFrom, is_empty}, Removing.HaveLeft}
use Rattle.derivation.proofs.{Ancestors.{parents_led, same_ways}, Hangs.nothing_raised, Leavings.{left_alike, left_more, none_left}}
use Rattle.derivation.proofs.{Raises.{raised_from_alike, raised_more}, TreeAfter.{going_listed, listed_any}}

-- the same slots are there, of the same objects, after only pairs of the tree have changed
pub slot_of_same :
    (old new : Machine) → new ≡ record old { parents = new.parents } → (id : ObjId) (q : SlotRef)
    → is_slot_of new id q ≡ is_slot_of old id q
unfolding object_of
slot_of_same old new rest id q = ap (λ (m : Machine). is_slot_of m id q) rest

pub going_same :
    (old new : Machine) → new ≡ record old { parents = new.parents } → (q : SlotRef) → is_going_slot new q ≡ is_going_slot old q
unfolding object_of
going_same old new rest q = ap (λ (m : Machine). is_going_slot m q) rest

pub listed_same : (old new : Machine) → new ≡ record old { parents = new.parents } → new.going ≡ old.going
listed_same old new rest = ap (λ (m : Machine). m.going) rest

-- pairs change, and then others
pub rest_again :
    (old mid new : Machine) → mid ≡ record old { parents = mid.parents } → new ≡ record mid { parents = new.parents }
    → new ≡ record old { parents = new.parents }
rest_again old mid new first second =
    second ∙ ap (λ (m : Machine). let changed : Machine = record m { parents = new.parents } in changed) first

-- the rest of a list from one of its elements on
from_next : (ids : List ObjId) (i : ℕ) (id : ObjId) → slice_get ids i ≡ Some id → drop i ids ≡ id ∷ drop (suc i) ids
from_next ids i id at =
    drop-cons ids i id (slice_get_within ids i id at) ∙ ap (λ first. first ∷ drop (suc i) ids) (get_or_from_slice_get ids i id id at)

-- a list has no rest past its end
past_end : (ids : List ObjId) (i : ℕ) → length ids ≤ i → drop i ids ≡ []
past_end [] i past = drop_none i where
  drop_none : (n : ℕ) → drop {A = ObjId} n [] ≡ []
  drop_none zero = refl
  drop_none (suc n) = refl
past_end (id ∷ ids) zero past = absurd (omega arith)
past_end (id ∷ ids) (suc i) past = past_end ids i (omega arith)

pub none_found : (ids : List ObjId) (i : ℕ) → slice_get ids i ≡ None → length ids ≤ i
none_found ids i at =
    elim ((slice_get_cases ids i).1) [
      | inl found ↦ let impossible : Some found.0 ≡ None = sym found.2 ∙ at in cc
      | inr past ↦ past.0
    ]

-- one object's slots, and then those of the objects after it
module _ (first m : Machine) (ids : List ObjId) (i : ℕ) (id : ObjId) (rest : m ≡ record first { parents = m.parents })
    (at : slice_get ids i ≡ Some id) where
  with_rest : (q : SlotRef) → (is_slot_of m id q || is_slot_among first (drop (i + 1) ids) q) ≡ is_slot_among first (drop i ids) q
  with_rest q =
      ap (λ one. one || is_slot_among first (drop (i + 1) ids) q) (slot_of_same first m rest id q)
      ∙ ap (λ n. is_slot_of first id q || is_slot_among first (drop n ids) q) (add-one i)
      ∙ ap (λ xs. is_slot_among first xs q) (sym (from_next ids i id at))

  pub raised_on :
      (next last : Machine) → AreRaisedFrom m next (is_slot_of m id) → AreRaisedFrom next last (is_slot_among first (drop (i + 1) ids))
      → AreRaisedFrom m last (is_slot_among first (drop i ids))
  raised_on next last once again =
      raised_from_alike m last (λ q. is_slot_of m id q || is_slot_among first (drop (i + 1) ids) q)
      (is_slot_among first (drop i ids)) with_rest
      (raised_more m next (is_slot_of m id) (is_slot_among first (drop (i + 1) ids)) once last again)

  pub left_on :
      (next last : Machine) → HaveLeft m next (is_slot_of m id) → HaveLeft next last (is_slot_among first (drop (i + 1) ids))
      → HaveLeft m last (is_slot_among first (drop i ids))
  left_on next last once again =
      left_alike m last (λ q. is_slot_of m id q || is_slot_among first (drop (i + 1) ids) q)
      (is_slot_among first (drop i ids)) with_rest
      (left_more m next last (is_slot_of m id) (is_slot_among first (drop (i + 1) ids)) once again)

-- after the last there is none
module _ (first m : Machine) (ids : List ObjId) (i : ℕ) (past : length ids ≤ i) where
  none_rest : (q : SlotRef) → is_slot_among first (drop i ids) q ≡ false
  none_rest q = ap (λ xs. is_slot_among first xs q) (past_end ids i past)

  pub raised_all : AreRaisedFrom m m (is_slot_among first (drop i ids))
  raised_all = nothing_raised m (is_slot_among first (drop i ids)) (λ q is empty. false≢true (sym (none_rest q) ∙ is))

  pub left_all : HaveLeft m m (is_slot_among first (drop i ids))
  left_all = left_alike m m (λ _. false) (is_slot_among first (drop i ids)) (λ q. sym (none_rest q)) (none_left m)

-- the empty ones among the slots that have children are those of objects that are going, if these are empty
module _ (m : Machine) (paired : AreFilledOrGoing m)
    (above : (slot parent : SlotRef) → parent_of m slot ≡ Some parent → IsTrue (has_slot m parent))
    (hollow : (slot parent : SlotRef) → parent_of m slot ≡ Some parent → Contains m.going parent.holder → cap_of m parent ≡ None) where
  pub empties_are_going : (low slot : SlotRef) → parent_of m low ≡ Some slot → is_empty m slot ≡ is_going_slot m slot
  empties_are_going low slot at = by_place (paired.above low slot at) where
    filled : IsSome (cap_of m slot) → (b : Bool) → is_going_slot m slot ≡ b → is_empty m slot ≡ b
    filled some true is = let none = hollow low slot at (going_listed m slot is) in absurd (false≢true (ap is_some (sym none) ∙ some))
    filled some false is = by_cap (cap_of m slot) some where
      by_cap : (o : Option Cap) → IsSome o → is_none o ≡ false
      by_cap None none = absurd (false≢true none)
      by_cap (Some held) one = refl

    by_place : IsFilledOrGoing m slot → is_empty m slot ≡ is_going_slot m slot
    by_place (inl some) = filled some (is_going_slot m slot) refl
    by_place (inr listed) =
        ap is_none (hollow low slot at listed)
        ∙ sym
        (listed_any (λ id. is_slot_of m id slot) m.going slot.holder listed
        (ap (λ tie. tie && has_slot m slot) (itself slot.holder) ∙ above low slot at))

-- slots that are empty come up, and then leave
module _ (old mid new : Machine) (these : SlotRef → Bool) (raised : SlotRef → Type 0)
    (emptied : (low slot : SlotRef) → parent_of old low ≡ Some slot → is_empty old slot ≡ these slot)
    (once : AreRaised old mid raised) (again : HaveLeft mid new these) where
  up_past_these :
      (q : SlotRef) → (parent_of mid q ≡ parent_of old q) ⊎ Nearest (parent_of old) these (parent_of old q) (parent_of mid q)
  up_past_these q =
      elim (once.others q) [
        | inl same ↦ inl same
        | inr is ↦ inr (same_ways (parent_of old) (is_empty old) these emptied q (once.up q is) refl)
      ]

  way_past_these :
      (q : SlotRef) → these q ≡ false → Nearest (parent_of old) these (parent_of old q) (parent_of new q)
  way_past_these q stays = parents_led these (parent_of old) (parent_of mid) up_past_these q (parent_of new q) (again.up q stays)

  pub left_once_raised : HaveLeft old new these
  left_once_raised =
      record { rest = rest_again old mid new once.rest again.rest; out = again.out; up = way_past_these }
