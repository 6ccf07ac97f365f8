-- Labels that are kept apart: what no step of one label's threads does to another label's objects, in any run from a table's boot
-- state (compare integrity in 'seL4 Enforces Integrity', section 4; told of two labels it is confine's own).
use Rattle.std.specs.Prelude.{ℕ, ◌≡◌, ◌⊎◌, Some}
use Rattle.base.specs.declared.ids.ObjId.{ObjId}
use Rattle.machine.specs.{declared.call.{Event.Event, Outcome.Outcome}, Authority.label_of, Layout.Layout, Machine.Machine, Step.Step}
use Rattle.integrity.specs.{Allowed.IsLabelled, Safe.IsReached, Shrinks.{IsSame, Shrinks}}

-- it holds of each object of a label at each step of a thread of another, from each machine that a run reaches
abbrev pub AtEachStep : Layout → ℕ → ℕ → (Machine → Machine → ObjId → Type 0) → Type 0
AtEachStep t a l Holds =
    (m next : Machine) (event : Event) (outcome : Outcome) → IsReached t m → Step m event outcome next
    → label_of t m event.thread ≡ Some a → (id : ObjId) → IsLabelled t m next id l → Holds m next id

-- no step of the one label's threads changes, makes or removes an object of the other's
abbrev pub NeverChanges : Layout → ℕ → ℕ → Type 0
NeverChanges t a l = AtEachStep t a l IsSame

-- each object of the other label stays as it is, or shrinks
abbrev pub OnlyTakes : Layout → ℕ → ℕ → Type 0
OnlyTakes t a l = AtEachStep t a l (λ m next id. IsSame m next id ⊎ Shrinks m next id)
