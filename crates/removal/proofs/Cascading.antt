-- The cascade of a removal: how far it has come, and what it has reached when no more objects are going.
use Rattle.std.proofs.{Common.{ℕ, ◌+◌, ◌∙◌, ◌≡◌, Bool, None, Some, add-one, ap, arith, slice_get, true}, lemmas.Option.slice_get_past}
use Rattle.{base.specs.declared.ids.{ObjId.ObjId, SlotRef.SlotRef}, machine.specs.{Counts.objects_in, Machine.{Machine, cap_of}}}
use Rattle.removal.specs.UnderWay.{AreEmptied, AreGoing, IsUnderWay, emptied, emptied_below, slots_at}
use Rattle.removal.proofs.{Ending.ended, Fitting.no_more_than_objects, Turns.{empty_below, rest_below, turned}}

pub below_more :
    (m : Machine) (id : ObjId) (index : ℕ)
    → emptied_below m id (index + 1) ≡ emptied (emptied_below m id index) (record { holder = id; index = index })
below_more m id index = ap (emptied_below m id) (add-one index)

pub record Cascades (first now : Machine) (looked : ℕ) : Type 0 where
  pub going : AreGoing now
  pub rest : now ≡ record first { caps = now.caps; going = now.going }
  pub empty : (slot : SlotRef) → cap_of first slot ≡ None → cap_of now slot ≡ None
  pub way : (m : Machine) (chosen : SlotRef → Bool) → IsUnderWay m chosen first 0 → IsUnderWay m chosen now looked

pub cascade_more :
    (first now : Machine) (looked : ℕ) (id : ObjId) → Cascades first now looked → slice_get now.going looked ≡ Some id
    → ((slot : SlotRef) → slot.holder ≡ id → cap_of (emptied_below now id (slots_at now id)) slot ≡ None)
    → AreGoing (emptied_below now id (slots_at now id)) → Cascades first (emptied_below now id (slots_at now id)) (looked + 1)
cascade_more first now looked id so_far next hollow going =
    record {
      going = going;
      rest =
          rest_below now id (slots_at now id)
          ∙ ap
          (λ (n : Machine).
          record n { caps = (emptied_below now id (slots_at now id)).caps; going = (emptied_below now id (slots_at now id)).going })
          so_far.rest;
      empty = λ slot none. empty_below now id (slots_at now id) slot (so_far.empty slot none);
      way = λ m chosen way. turned m chosen now looked id (so_far.way m chosen way) next hollow;
    }

pub cascade_ended :
    (first now : Machine) (looked : ℕ) → Cascades first now looked → slice_get now.going looked ≡ None
    → (m : Machine) (chosen : SlotRef → Bool) → IsUnderWay m chosen first 0
    → ((slot : SlotRef) → chosen slot ≡ true → cap_of first slot ≡ None) → AreEmptied m chosen now
cascade_ended first now looked so_far all m chosen way given =
    ended m chosen now looked (so_far.way m chosen way) (λ slot is. so_far.empty slot (given slot is)) all

-- no more objects are going than there are
pub none_past_all : (first now : Machine) (looked : ℕ) → Cascades first now looked → slice_get now.going (objects_in first) ≡ None
unfolding objects_in
none_past_all first now looked so_far =
    let few = no_more_than_objects now now.going so_far.going.once so_far.going.present in
    let same : objects_in now ≡ objects_in first = ap objects_in so_far.rest in
    slice_get_past now.going (objects_in first) (omega (arith, few, same))
