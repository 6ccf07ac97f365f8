-- Sights, which are an object's content, the threads that wait at it, its words and the contents of its slots (the parts of an object that
-- 'seL4 Enforces Integrity', section 4, compares; sights are confine's own).
use Rattle.std.specs.Prelude.{ℕ, ◌≡◌, List, None, Option, Some, length, option_and_then, slice_get}
use Rattle.base.specs.declared.ids.ObjId.{ObjId}
use Rattle.machine.specs.{declared.cap.Cap.Cap, Machine.{Machine, cap_of, object_of, queue_of, words_of}, Objects.slot_count}
use Rattle.runs.specs.declared.sight.Sight.{Sight}

abbrev pub held_at : List (Option Cap) → ℕ → Option Cap
held_at slots index = option_and_then (λ held. held) (slice_get slots index)

-- the slots of an object hold these capabilities, and there are no others
abbrev pub HasSlots : Machine → ObjId → List (Option Cap) → Type 0
HasSlots m id slots = (index : ℕ) → cap_of m (record { holder = id; index = index }) ≡ held_at slots index

-- an object exists and is as the sight says
pub record IsSightOf (m : Machine) (id : ObjId) (sight : Sight) : Type 0 where
  pub content : object_of m id ≡ Some sight.content
  pub queue : queue_of m id ≡ Some sight.queue.items
  pub words : words_of m id ≡ Some sight.words.items
  pub count : length sight.slots.items ≡ slot_count sight.content
  pub slots : HasSlots m id sight.slots.items

-- no object exists: there is no content, no queue, no words and no slots
pub record IsAbsent (m : Machine) (id : ObjId) : Type 0 where
  pub content : object_of m id ≡ None
  pub queue : queue_of m id ≡ None
  pub words : words_of m id ≡ None
  pub slots : (index : ℕ) → cap_of m (record { holder = id; index = index }) ≡ None

-- an object is as the sight says, or doesn't exist
abbrev pub IsSeen : Machine → ObjId → Option Sight → Type 0
IsSeen m id None = IsAbsent m id
IsSeen m id (Some sight) = IsSightOf m id sight
