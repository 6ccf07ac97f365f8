-- The headline: confinement and integrity of every run from a table's boot state ('seL4 Enforces Integrity', sections 4 and 5,
-- authority confinement and integrity).
use Rattle.std.specs.Prelude.{ℕ, ◌≡◌, ◌⊎◌, List, Some}
use Rattle.base.specs.declared.ids.ObjId.{ObjId}
use Rattle.machine.specs.{declared.{call.{Event.Event, Outcome.Outcome}, object.Object.Object}, Authority.label_of, Boot.IsBoot}
use Rattle.machine.specs.{Layout.Layout, Machine.{Machine, object_of}, Outcomes.IsRefused, Run.Run, Step.Step}
use Rattle.policy.specs.{Change.ActorTest, Domain.EdgeTest}
use Rattle.integrity.specs.{Acting.{HoldsOfActors, MayAct}, Allowed.IsAllowedStep, Altered.IsNarrowStep, Budgets.KeepsBudgets}
use Rattle.integrity.specs.Confined.{IsConfined}

-- some list of events, by any threads on any cores, leads from the table's boot state to the machine
pub record IsReached (t : Layout) (m : Machine) : Type 0 where
  pub boot : Machine
  pub booted : IsBoot t boot
  pub events : List Event
  pub outcomes : List Outcome
  pub run : Run boot events outcomes m

-- after every list of kernel calls every capability lies within the policy
abbrev pub StaysConfined : Layout → EdgeTest → Type 0
StaysConfined t allowed = (m : Machine) → IsReached t m → IsConfined t allowed m

-- no step changes an object of a label on which its caller's label has no modifying authority
abbrev pub KeepsIntegrity : Layout → EdgeTest → Type 0
KeepsIntegrity t allowed =
    (m next : Machine) (event : Event) (outcome : Outcome) → IsReached t m → Step m event outcome next
    → IsAllowedStep t allowed m event next

-- a step changes an object only if its caller's label may change the object's label, or if the object only shrinks and the caller's
-- label may make it smaller; for each test of labels that holds of all that may act and may have threads
abbrev pub KeepsNarrowBounds : Layout → EdgeTest → Type 0
KeepsNarrowBounds t allowed =
    (acts : ActorTest) → HoldsOfActors t allowed acts
    → (m next : Machine) (event : Event) (outcome : Outcome) → IsReached t m → Step m event outcome next
    → IsNarrowStep t allowed acts m event next

-- a context's configured budget or period changes only by a caller whose label has the policy's SchedControl edge
abbrev pub GuardsBudgets : Layout → EdgeTest → Type 0
GuardsBudgets t allowed =
    (m next : Machine) (event : Event) (outcome : Outcome) → IsReached t m → Step m event outcome next
    → KeepsBudgets t allowed m event next

-- each present object has a label after every list of kernel calls, so that no authority goes unseen
abbrev pub LabelsObjects : Layout → Type 0
LabelsObjects t =
    (m : Machine) → IsReached t m → (id : ObjId) (object : Object) → object_of m id ≡ Some object
    → (label : ℕ) × (label_of t m id ≡ Some label)

-- each step is refused, or is of a thread whose label may act
abbrev pub RefusesOthers : Layout → EdgeTest → Type 0
RefusesOthers t allowed =
    (m next : Machine) (event : Event) (outcome : Outcome) → IsReached t m → Step m event outcome next
    → IsRefused outcome ⊎ ((a : ℕ) × (label_of t m event.thread ≡ Some a) × MayAct t allowed a)

pub record IsSafe (t : Layout) (allowed : EdgeTest) : Type 0 where
  pub labelled : LabelsObjects t
  pub confined : StaysConfined t allowed
  pub integrity : KeepsIntegrity t allowed
  pub narrow : KeepsNarrowBounds t allowed
  pub budgets : GuardsBudgets t allowed
  pub acting : RefusesOthers t allowed
