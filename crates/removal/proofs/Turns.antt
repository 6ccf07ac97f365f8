-- A removal stays under way as an object that is going is looked through, and then one more has been.
use Rattle.std.specs.Prelude.{◌==◌, ◌⊎◌, Contains, IsTrue, None, Option, Some, is_some, not, slice_get}
use Rattle.std.proofs.Common.{[], ℕ, ◌+◌, ◌<◌, ◌∙◌, ◌∷◌, ◌≡◌, ◌≤◌, Bool, ap, arith, cond, eqb-true, false, inl, inr, refl, subst, suc, sym}
use Rattle.std.proofs.{Common.{true, zero}, lemmas.{Bool.{eqb-false, false≢true, ltb-true}, Option.{get_or_from_slice_get, same_Some}}}
use Rattle.{std.proofs.lemmas.Option.{slice_get-get_or, slice_get_within}, base.specs.declared.ids.{ObjId.ObjId, SlotRef.SlotRef}}
use Rattle.machine.specs.{declared.{cap.Cap.Cap, object.Object.{Object, Object as o}}, Changes.with_going, Counts.caps_to, Gone.IsGone}
use Rattle.machine.specs.{Gone.{LosesAll, has_slots, is_holder, with_last}, Machine.{Machine, cap_of, has_slot, object_of, without_cap}}
use Rattle.machine.{specs.{Objects.slot_count, Removal.cap_after}, proofs.CapCounts.{all_lost, caps_to-none}}
use Rattle.removal.specs.UnderWay.{IsUnderWay, emptied, emptied_below, noted, slots_at, slots_of}
use Rattle.removal.proofs.{Dropped.listed_at, Emptying.{cap_of-with_going, emptied_here, emptied_way, get_front, stays_empty}}

slots_held : (object : Object) (index : ℕ) → index < slot_count object → has_slots (Some object) ≡ true
slots_held (o.CNode node) index less = refl
slots_held (o.Tcb tcb) index less = refl
slots_held _ index less = absurd (omega (arith, less))

-- an emptied slot leaves the rest as it was

-- a machine differs from another in what is filled and in what more is going
record Leaves (before after : Machine) : Type 0 where
  rest : after ≡ record before { caps = after.caps; going = after.going }
  empty : (slot : SlotRef) → cap_of before slot ≡ None → cap_of after slot ≡ None
  still : (index : ℕ) (id : ObjId) → slice_get before.going index ≡ Some id → slice_get after.going index ≡ Some id

noted_leaves : (m : Machine) (slot : SlotRef) (id : ObjId) → Leaves m (noted (without_cap m slot) id)
unfolding with_going without_cap cap_of
noted_leaves m slot id = by_count (caps_to (without_cap m slot) id == 0) where
  by_count : (b : Bool) → Leaves m (cond b (with_going (without_cap m slot) id) (without_cap m slot))
  by_count true =
      record {
        rest = refl;
        empty = λ q none. cap_of-with_going (without_cap m slot) id q ∙ stays_empty m slot q none;
        still = λ index each is. get_front m.going (id ∷ []) index (slice_get_within m.going index each is) ∙ is;
      }
  by_count false = record { rest = refl; empty = stays_empty m slot; still = λ index each is. is }

emptied_leaves : (m : Machine) (slot : SlotRef) → Leaves m (emptied m slot)
unfolding emptied
emptied_leaves m slot = by_cap (cap_of m slot) refl where
  by_cap : (found : Option Cap) → cap_of m slot ≡ found → Leaves m (emptied m slot)
  by_cap None is = rw is (record { rest = refl; empty = λ q none. none; still = λ index each at. at })
  by_cap (Some held) is = rw is (noted_leaves m slot held.object)

leaves_both : {a b c : Machine} → Leaves a b → Leaves b c → Leaves a c
leaves_both {a} {b} {c} first second =
    record {
      rest = second.rest ∙ ap (λ (n : Machine). record n { caps = c.caps; going = c.going }) first.rest;
      empty = λ slot none. second.empty slot (first.empty slot none);
      still = λ index id is. second.still index id (first.still index id is);
    }

leaves_below : (m : Machine) (id : ObjId) (count : ℕ) → Leaves m (emptied_below m id count)
leaves_below m id zero = record { rest = refl; empty = λ q none. none; still = λ index each at. at }
leaves_below m id (suc index) = leaves_both (leaves_below m id index) (emptied_leaves (emptied_below m id index) (record { holder = id; index = index }))

pub rest_below :
    (m : Machine) (id : ObjId) (count : ℕ)
    → emptied_below m id count ≡ record m { caps = (emptied_below m id count).caps; going = (emptied_below m id count).going }
rest_below m id count = (leaves_below m id count).rest

pub empty_below : (m : Machine) (id : ObjId) (count : ℕ) (slot : SlotRef) → cap_of m slot ≡ None → cap_of (emptied_below m id count) slot ≡ None
empty_below m id count = (leaves_below m id count).empty

-- an emptied slot is empty
pub emptied_there : (m : Machine) (slot : SlotRef) → cap_of (emptied m slot) slot ≡ None
unfolding emptied
emptied_there m slot = by_cap (cap_of m slot) refl where
  by_count : (id : ObjId) (b : Bool) → cap_of (cond b (with_going (without_cap m slot) id) (without_cap m slot)) slot ≡ None
  by_count id true = cap_of-with_going (without_cap m slot) id slot ∙ emptied_here m slot
  by_count id false = emptied_here m slot

  by_cap : (found : Option Cap) → cap_of m slot ≡ found → cap_of (emptied m slot) slot ≡ None
  by_cap None is = rw is is
  by_cap (Some held) is = rw is (by_count held.object (caps_to (without_cap m slot) held.object == 0))

pub emptied_within :
    (m : Machine) (id : ObjId) (count index : ℕ) → index < count
    → cap_of (emptied_below m id count) (record { holder = id; index = index }) ≡ None
emptied_within m id zero index less = absurd (omega (arith, less))
emptied_within m id (suc count) index less = by_last (index == count) refl (emptied_within m id count index) where
  by_last :
      (b : Bool) → (index == count) ≡ b
      → (index < count → cap_of (emptied_below m id count) (record { holder = id; index = index }) ≡ None)
      → cap_of (emptied_below m id (suc count)) (record { holder = id; index = index }) ≡ None
  by_last true is before =
      subst (λ (i : ℕ). cap_of (emptied_below m id (suc count)) (record { holder = id; index = i }) ≡ None)
      (sym (eqb-true index count is)) (emptied_there (emptied_below m id count) (record { holder = id; index = count }))
  by_last false is before =
      let differs = eqb-false index count is in
      (emptied_leaves (emptied_below m id count) (record { holder = id; index = count })).empty (record { holder = id; index = index })
      (before (omega (arith, less, differs)))

-- no slot of an object is filled when all are emptied

has_less : (m : Machine) (slot : SlotRef) → IsTrue (has_slot m slot) → slot.index < slots_at m slot.holder
has_less m slot there = by_object (object_of m slot.holder) refl where
  by_object : (found : Option Object) → object_of m slot.holder ≡ found → slot.index < slots_of found
  by_object None is = absurd (false≢true (rw is at there))
  by_object (Some object) is = ltb-true slot.index (slot_count object) (rw is at there)

slots_below : (m : Machine) (id : ObjId) (count : ℕ) (of : ObjId) → slots_at (emptied_below m id count) of ≡ slots_at m of
unfolding object_of
slots_below m id count of = ap (λ (n : Machine). slots_of (object_of n of)) (rest_below m id count)

pub all_hollow :
    (m : Machine) (id : ObjId)
    → ((slot : SlotRef) (held : Cap) → cap_of (emptied_below m id (slots_at m id)) slot ≡ Some held
    → IsTrue (has_slot (emptied_below m id (slots_at m id)) slot))
    → (slot : SlotRef) → slot.holder ≡ id → cap_of (emptied_below m id (slots_at m id)) slot ≡ None
all_hollow m id in_slots slot own = by_cap (cap_of (emptied_below m id (slots_at m id)) slot) refl where
  after : Machine
  after = emptied_below m id (slots_at m id)

  by_cap : (found : Option Cap) → cap_of after slot ≡ found → found ≡ None
  by_cap None is = refl
  by_cap (Some held) is =
      let less = has_less after slot (in_slots slot held is) in
      let same = slots_below m id (slots_at m id) slot.holder in
      let its : slots_at m slot.holder ≡ slots_at m id = ap (slots_at m) own in
      let none : cap_of after (record { holder = slot.holder; index = slot.index }) ≡ None =
      subst (λ (x : ObjId). cap_of after (record { holder = x; index = slot.index }) ≡ None) (sym own)
      (emptied_within m id (slots_at m id) slot.index (omega (arith, less, same, its))) in
      sym is ∙ none

module _ (m : Machine) (chosen : SlotRef → Bool) (now : Machine) (looked : ℕ) (id : ObjId) (way : IsUnderWay m chosen now looked) (next : slice_get now.going looked ≡ Some id) where
  abbrev is_empty : SlotRef → Bool
  is_empty slot = not (is_some (cap_of now slot))

  left : (slot : SlotRef) → cap_of now slot ≡ cap_after m is_empty slot
  left slot = by_cap (cap_of now slot) refl (way.kept slot) where
    by_cap :
        (found : Option Cap) → cap_of now slot ≡ found → (cap_of now slot ≡ cap_of m slot) ⊎ ((cap_of now slot ≡ None) × IsGone m chosen slot)
        → cap_of now slot ≡ cap_after m is_empty slot
    by_cap None is kept = is ∙ sym (ap (λ (found : Option Cap). cond (not (is_some found)) None (cap_of m slot)) is)
    by_cap (Some held) is (inl same) = same ∙ sym (ap (λ (found : Option Cap). cond (not (is_some found)) None (cap_of m slot)) is)
    by_cap (Some held) is (inr emptied) = let none = emptied.0 in cc

  lost : (1 ≤ caps_to m id) × (caps_to now id ≡ 0)
  lost =
      (way.going id).0
      (looked, slice_get_within now.going looked id next, get_or_from_slice_get now.going looked id id next)

  object_same : object_of now id ≡ object_of m id
  unfolding object_of
  object_same = ap (λ (n : Machine). object_of n id) way.rest

  -- each slot of an object that is going goes
  slot_goes : (index : ℕ) → index < slots_at now id → IsGone m chosen (record { holder = id; index = index })
  slot_goes index less =
      let loses : LosesAll m is_empty id = all_lost m now is_empty left id lost.0 lost.1 in
      with_last holder loses.last loses.final loses.there loses.its_own
      (λ each also filled same. by_kept each also filled same (way.kept each))
    where
      holder : is_holder m id ≡ true
      holder = by_object (object_of now id) refl less where
        by_object : (found : Option Object) → object_of now id ≡ found → index < slots_of found → is_holder m id ≡ true
        by_object None is few = absurd (omega (arith, few))
        by_object (Some object) is few = ap has_slots (sym object_same ∙ is) ∙ slots_held object index few

      by_kept :
          (each : SlotRef) (also : Cap) → cap_of m each ≡ Some also → also.object ≡ id
          → (cap_of now each ≡ cap_of m each) ⊎ ((cap_of now each ≡ None) × IsGone m chosen each) → IsGone m chosen each
      by_kept each also filled same (inl kept) = absurd (caps_to-none now id lost.1 each also (kept ∙ filled) same)
      by_kept each also filled same (inr emptied) = emptied.1

  way_below : (count : ℕ) → count ≤ slots_at now id → IsUnderWay m chosen (emptied_below now id count) looked
  way_below zero few = way
  way_below (suc index) few =
      emptied_way m chosen looked (emptied_below now id index) (record { holder = id; index = index })
      (way_below index (omega (arith, few))) (slot_goes index (omega (arith, few)))

  abbrev after : Machine
  after = emptied_below now id (slots_at now id)

  pub turned :
      ((slot : SlotRef) → slot.holder ≡ id → cap_of (emptied_below now id (slots_at now id)) slot ≡ None)
      → IsUnderWay m chosen (emptied_below now id (slots_at now id)) (looked + 1)
  turned hollow =
      let done = way_below (slots_at now id) (omega arith) in
      record {
        rest = done.rest;
        kept = done.kept;
        going = done.going;
        once = done.once;
        within = let inside = slice_get_within after.going looked id still in omega (arith, inside);
        through = λ index slot less is. by_last index slot less is (index == looked) refl;
      } where
        still : slice_get after.going looked ≡ Some id
        still = (leaves_below now id (slots_at now id)).still looked id next

        by_last :
            (index : ℕ) (slot : SlotRef) → index < looked + 1 → slice_get after.going index ≡ Some slot.holder → (b : Bool)
            → (index == looked) ≡ b → cap_of after slot ≡ None
        by_last index slot less is true last =
            hollow slot
            (same_Some slot.holder id (sym is ∙ ap (slice_get after.going) (eqb-true index looked last) ∙ still))
        by_last index slot less is false before = (way_below (slots_at now id) (omega arith)).through index slot (let differs = eqb-false index looked before in omega (arith, less, differs)) is

pub stays_emptied : (m : Machine) (slot q : SlotRef) → cap_of m q ≡ None → cap_of (emptied m slot) q ≡ None
stays_emptied m slot = (emptied_leaves m slot).empty

-- an object that is going stays so
pub listed_on : (m : Machine) (slot : SlotRef) (id : ObjId) → Contains m.going id → Contains (emptied m slot).going id
listed_on m slot id listed =
    let there : slice_get m.going listed.0 ≡ Some id = slice_get-get_or m.going listed.0 id listed.1 ∙ ap Some listed.2 in
    listed_at (emptied m slot).going listed.0 id ((emptied_leaves m slot).still listed.0 id there)
