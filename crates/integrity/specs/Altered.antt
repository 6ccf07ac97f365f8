-- Steps bounded by the labels that act: the objects that a step may change if only some labels act (the integrity of each object in
-- 'seL4 Enforces Integrity', section 4; the bounds are confine's own).
use Rattle.std.specs.Prelude.{ℕ, ◌≡◌, ◌⊎◌, Some}
use Rattle.base.specs.declared.ids.ObjId.{ObjId}
use Rattle.machine.specs.{declared.call.Event.Event, Authority.label_of, Layout.Layout, Machine.Machine}
use Rattle.policy.specs.{Change.{ActorTest, MayChange}, Domain.EdgeTest, NarrowTake.MayShrink}
use Rattle.integrity.specs.{Allowed.IsLabelled, Shrinks.{IsSame, Shrinks}}

-- a label may change an object's label, or make it smaller if the object only shrinks
abbrev pub MayChangeOrShrink : EdgeTest → ActorTest → ℕ → ℕ → Machine → Machine → ObjId → Type 0
MayChangeOrShrink allowed acts caller label m next id =
    MayChange allowed acts caller label ⊎ (MayShrink allowed acts caller label × Shrinks m next id)

-- an object changes within a label's bounds: the object has a label that the label may so change
pub record MayAlter (t : Layout) (allowed : EdgeTest) (acts : ActorTest) (caller : ℕ) (m next : Machine) (id : ObjId) : Type 0 where
  pub label : ℕ
  pub labelled : IsLabelled t m next id label
  pub may : MayChangeOrShrink allowed acts caller label m next id

-- the thread that makes the step has a label, and the change is within the label's bounds
pub record IsAltered (t : Layout) (allowed : EdgeTest) (acts : ActorTest) (m next : Machine) (thread id : ObjId) : Type 0 where
  pub caller : ℕ
  pub calls : label_of t m thread ≡ Some caller
  pub may : MayAlter t allowed acts caller m next id

-- each object is as it was, or changed within the bounds of the thread's label
abbrev pub IsNarrowStep : Layout → EdgeTest → ActorTest → Machine → Event → Machine → Type 0
IsNarrowStep t allowed acts m event next = (id : ObjId) → IsSame m next id ⊎ IsAltered t allowed acts m next event.thread id
