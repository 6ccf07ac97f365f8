-- A removal under way: the slots that have been emptied, the objects that have lost their last capability, and the machine once all are
-- found (seL4 manual, "Deletion, Revocation, and Recycling"; in this order it is confine's own).
use Rattle.std.specs.Prelude.{ℕ, ◌<◌, ◌==◌, ◌↔◌, ◌≡◌, ◌≢◌, ◌≤◌, ◌⊎◌, AllPairs, Bool, Contains, IsSome, List, None, Option, Some}
use Rattle.std.specs.Prelude.{if◌then◌else◌, length, slice_get, suc, true, zero}
use Rattle.base.specs.declared.ids.{ObjId.ObjId, SlotRef.SlotRef}
use Rattle.machine.specs.{declared.{cap.Cap.Cap, object.Object.Object}, Changes.with_going, Counts.caps_to, Gone.{IsGone, gone_of}}
use Rattle.machine.specs.{Machine.{Machine, cap_of, object_of, without_cap}, Objects.slot_count, Removal.{cap_after, vanishes}}

-- an object is going if it has no capability any more
abbrev pub noted : Machine → ObjId → Machine
noted m id = if caps_to m id == 0 then with_going m id else m

-- a slot is empty, and its object is going if that was its last capability
unfoldable pub emptied : Machine → SlotRef → Machine
emptied m slot = by_cap (cap_of m slot) where
  by_cap : Option Cap → Machine
  by_cap None = m
  by_cap (Some held) = noted (without_cap m slot) held.object

-- this many of an object's slots are emptied, in order
abbrev pub emptied_below : Machine → ObjId → ℕ → Machine
emptied_below m id zero = m
emptied_below m id (suc index) = emptied (emptied_below m id index) (record { holder = id; index = index })

-- the number of slots, if there is an object
abbrev pub slots_of : Option Object → ℕ
slots_of None = 0
slots_of (Some object) = slot_count object

abbrev pub slots_at : Machine → ObjId → ℕ
slots_at m id = slots_of (object_of m id)

abbrev pub HasNoneTwice : List ObjId → Type 0
HasNoneTwice ids = AllPairs (λ a b. a ≢ b) ids

-- the objects that are going are there, have no capability, and stand once
pub record AreGoing (m : Machine) : Type 0 where
  pub present : (id : ObjId) → Contains m.going id → IsSome (object_of m id)
  pub unheld : (id : ObjId) → Contains m.going id → caps_to m id ≡ 0
  pub once : HasNoneTwice m.going

-- some of the slots that go with the chosen ones have been emptied, from m on; the objects that have lost their last capability are
-- going, and all slots of this many of these are empty
pub record IsUnderWay (m : Machine) (chosen : SlotRef → Bool) (now : Machine) (looked : ℕ) : Type 0 where
  pub rest : now ≡ record m { caps = now.caps; parents = now.parents; going = now.going }
  pub kept : (slot : SlotRef) → (cap_of now slot ≡ cap_of m slot) ⊎ ((cap_of now slot ≡ None) × IsGone m chosen slot)
  pub going : (id : ObjId) → Contains now.going id ↔ ((1 ≤ caps_to m id) × (caps_to now id ≡ 0))
  pub once : HasNoneTwice now.going
  pub within : looked ≤ length now.going
  pub through : (index : ℕ) (slot : SlotRef) → index < looked → slice_get now.going index ≡ Some slot.holder → cap_of now slot ≡ None

-- each slot that goes with the chosen ones has been emptied, from m on; the objects that have lost their last capability are going, and
-- each of their slots is empty
pub record AreEmptied (m : Machine) (chosen : SlotRef → Bool) (now : Machine) : Type 0 where
  pub rest : now ≡ record m { caps = now.caps; parents = now.parents; going = now.going }
  pub caps : (slot : SlotRef) → cap_of now slot ≡ cap_after m (gone_of m chosen) slot
  pub going : (id : ObjId) → Contains now.going id ↔ (vanishes m chosen id ≡ true)
  pub once : HasNoneTwice now.going
  pub hollow : (slot : SlotRef) → Contains now.going slot.holder → cap_of now slot ≡ None
