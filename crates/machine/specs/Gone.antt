-- The slots that go when some slots are removed: all slots of a CNode or a thread go with its last capability (seL4 manual, "Capability
-- Spaces"; that they go at once, also those that hold each other's capabilities, is confine's own).
use Rattle.std.specs.{FinMap.keys, List.list_any, Prelude.{◌&&◌, ◌||◌, ◌≡◌, Bool, List, None, Option, Some, false, filter, not, true}}
use Rattle.base.specs.declared.ids.{ObjId.ObjId, SlotRef.SlotRef}
use Rattle.machine.specs.{declared.{cap.Cap.Cap, object.Object.{Object, Object as o}}, Machine.{Machine, cap_of, object_of, same_id}}
use Rattle.machine.specs.Rounds.{staying}

-- an object has slots: it is a CNode or a thread
abbrev pub has_slots : Option Object → Bool
has_slots (Some (o.CNode _)) = true
has_slots (Some (o.Tcb _)) = true
has_slots _ = false

abbrev pub is_holder : Machine → ObjId → Bool
is_holder m id = has_slots (object_of m id)

-- a set holds every capability of an object that has at least one
pub record LosesAll (m : Machine) (set : SlotRef → Bool) (id : ObjId) : Type 0 where
  pub last : SlotRef
  pub final : Cap
  pub there : cap_of m last ≡ Some final
  pub its_own : final.object ≡ id
  pub all : (slot : SlotRef) (held : Cap) → cap_of m slot ≡ Some held → held.object ≡ id → set slot ≡ true

-- the least set that holds the chosen slots and, with every capability of a CNode or thread that has at least one, all its slots
pub record IsClosedSet (m : Machine) (chosen set : SlotRef → Bool) : Type 0 where
  pub holds : (slot : SlotRef) → chosen slot ≡ true → set slot ≡ true
  pub closes : (slot : SlotRef) → is_holder m slot.holder ≡ true → LosesAll m set slot.holder → set slot ≡ true

pub record IsLeastSet (m : Machine) (chosen set : SlotRef → Bool) : Type 0 where
  pub closed : IsClosedSet m chosen set
  pub least :
      (other : SlotRef → Bool) → IsClosedSet m chosen other → (slot : SlotRef) → set slot ≡ true → other slot ≡ true

-- a slot goes for a reason: it is chosen, or its holder has a capability and loses all
pub data IsGone (m : Machine) (chosen : SlotRef → Bool) : SlotRef → Type 0 where
  given : {slot : SlotRef} → chosen slot ≡ true → IsGone m chosen slot
  with_last :
      {slot : SlotRef} → is_holder m slot.holder ≡ true → (last : SlotRef) (final : Cap) → cap_of m last ≡ Some final
      → final.object ≡ slot.holder
      → ((each : SlotRef) (also : Cap) → cap_of m each ≡ Some also → also.object ≡ slot.holder → IsGone m chosen each)
      → IsGone m chosen slot

-- whether a slot is filled, and its capability passes a test
abbrev pub is_filled_with : (Cap → Bool) → Option Cap → Bool
is_filled_with test None = false
is_filled_with test (Some filling) = test filling

-- whether some filled slot and its capability pass a test
unfoldable pub some_cap : Machine → (SlotRef → Cap → Bool) → Bool
some_cap m test = list_any (λ slot. is_filled_with (test slot) (cap_of m slot)) (keys m.caps)

-- a capability is for an object
abbrev pub is_for : ObjId → SlotRef → Cap → Bool
is_for id slot filling = same_id filling.object id

-- a capability is for an object, and its slot isn't in the set
abbrev pub stays_for : (SlotRef → Bool) → ObjId → SlotRef → Cap → Bool
stays_for set id slot filling = same_id filling.object id && not (set slot)

-- whether an object has a capability, and all that it has are in the set
abbrev pub loses_all : Machine → (SlotRef → Bool) → ObjId → Bool
loses_all m set id = some_cap m (is_for id) && not (some_cap m (stays_for set id))

-- the CNodes and threads
unfoldable pub holders : Machine → List ObjId
holders m = filter (is_holder m) (keys m.objects)

-- the chosen slots, and those of each CNode and thread that isn't among these
abbrev pub goes_beside : Machine → (SlotRef → Bool) → List ObjId → SlotRef → Bool
goes_beside m chosen others slot = chosen slot || is_holder m slot.holder && not (list_any (same_id slot.holder) others)

unfoldable pub gone_of : Machine → (SlotRef → Bool) → SlotRef → Bool
gone_of m chosen = goes_beside m chosen (staying (λ others. loses_all m (goes_beside m chosen others)) (holders m))
