-- Objects that are going stay there, without a capability and once, as a slot is emptied; and there is room for one more.
use Rattle.std.{specs.Prelude.{◌⊎◌, Contains, IsSome, Some}, proofs.Common.{[], ◌<◌, ◌∷◌, ◌≡◌, arith, inl, inr, length, refl, subst, sym}}
use Rattle.{std.proofs.lemmas.List.Elements.Contains-append_cases, base.specs.declared.ids.{ObjId.ObjId, SlotRef.SlotRef}}
use Rattle.machine.specs.{declared.cap.Cap.Cap, Changes.with_going, Counts.{caps_to, objects_in}}
use Rattle.machine.{specs.Machine.{Machine, cap_of, object_of, without_cap}, proofs.CapCounts.{caps_to-some, caps_to-without_cap}}
use Rattle.removal.{specs.UnderWay.AreGoing, proofs.Fitting.{once_more, only_one, room_for_one}}

objects-without_cap : (m : Machine) (slot : SlotRef) → objects_in (without_cap m slot) ≡ objects_in m
unfolding objects_in without_cap
objects-without_cap m slot = refl

module _
    (m : Machine) (slot : SlotRef) (held : Cap) (going : AreGoing m) (filled : cap_of m slot ≡ Some held)
    (there : IsSome (object_of m held.object)) where
  apart : ¬ (Contains m.going held.object)
  apart listed =
      let none = going.unheld held.object listed in
      let some = caps_to-some m slot held filled in absurd (omega (arith, none, some))

  pub room_in : length (without_cap m slot).going < objects_in (without_cap m slot)
  unfolding without_cap
  room_in =
      let room = room_for_one m m.going held.object going.once going.present there apart in
      let same = objects-without_cap m slot in omega (arith, room, same)

  fewer : (id : ObjId) → Contains m.going id → caps_to (without_cap m slot) id ≡ 0
  fewer id listed =
      let none = going.unheld id listed in
      let parts = caps_to-without_cap m slot held filled id in omega (arith, none, parts)

  -- an object of which no capability is left is going then
  pub one_more_going : caps_to (without_cap m slot) held.object ≡ 0 → AreGoing (with_going (without_cap m slot) held.object)
  unfolding with_going without_cap object_of caps_to
  one_more_going none =
      record {
        present = λ id listed. (by_place id (Contains-append_cases m.going (held.object ∷ []) id listed)).0;
        unheld = λ id listed. (by_place id (Contains-append_cases m.going (held.object ∷ []) id listed)).1;
        once = once_more m.going held.object going.once apart;
      } where
        by_place :
            (id : ObjId) → Contains m.going id ⊎ Contains (held.object ∷ []) id
            → IsSome (object_of m id) × (caps_to (without_cap m slot) id ≡ 0)
        by_place id (inl listed) = (going.present id listed, fewer id listed)
        by_place id (inr last) =
            subst (λ (x : ObjId). IsSome (object_of m x) × (caps_to (without_cap m slot) x ≡ 0)) (sym (only_one held.object id last))
            (there, none)

  pub same_going : AreGoing (without_cap m slot)
  unfolding without_cap object_of
  same_going = record { present = going.present; unheld = fewer; once = going.once }
