-- Allowed steps: which objects a step may change, by the label of the thread that makes it
-- ('seL4 Enforces Integrity', section 4, the integrity of each object).
use Rattle.std.specs.Prelude.{ℕ, ◌≡◌, ◌⊎◌, None, Some}
use Rattle.base.specs.declared.ids.ObjId.{ObjId}
use Rattle.machine.specs.{declared.call.Event.Event, Authority.label_of, Layout.Layout, Machine.{Machine, object_of}}
use Rattle.{policy.specs.{Cut.IsCut, Domain.EdgeTest, Full.IsFull}, integrity.specs.Shrinks.{IsSame, Shrinks}}

-- the label of an object that is there before, or of one that is made
abbrev pub IsLabelled : Layout → Machine → Machine → ObjId → ℕ → Type 0
IsLabelled t m next id label = (label_of t m id ≡ Some label) ⊎ ((object_of m id ≡ None) × (label_of t next id ≡ Some label))

-- modifying authority of a label over an object's label: full, or cut if the object only shrinks
abbrev pub MayModify : EdgeTest → ℕ → ℕ → Machine → Machine → ObjId → Type 0
MayModify allowed caller label m next id = IsFull allowed caller label ⊎ (IsCut allowed caller label × Shrinks m next id)

-- an object changes within a label's authority: the object has a label on which the label has modifying authority
pub record ChangesWithin (t : Layout) (allowed : EdgeTest) (caller : ℕ) (m next : Machine) (id : ObjId) : Type 0 where
  pub label : ℕ
  pub labelled : IsLabelled t m next id label
  pub may : MayModify allowed caller label m next id

-- the thread that makes the step has a label, and the change is within the label's authority
pub record IsModified (t : Layout) (allowed : EdgeTest) (m next : Machine) (thread id : ObjId) : Type 0 where
  pub caller : ℕ
  pub calls : label_of t m thread ≡ Some caller
  pub may : ChangesWithin t allowed caller m next id

-- an allowed step of a thread: each object is as it was, or changed within the authority of the thread's label
abbrev pub IsAllowedStep : Layout → EdgeTest → Machine → Event → Machine → Type 0
IsAllowedStep t allowed m event next = (id : ObjId) → IsSame m next id ⊎ IsModified t allowed m next event.thread id
