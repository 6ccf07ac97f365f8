-- Scripts that show what a label may do: their last call is made by one of its threads and changes an object of another label (compare
-- integrity in 'seL4 Enforces Integrity', section 4; showing it by a run is confine's own).
use Rattle.std.specs.Prelude.{[], ℕ, ◌++◌, ◌∷◌, ◌≡◌, ◌≢◌, All, Bool, List, Some}
use Rattle.base.specs.{declared.{ids.ObjId.ObjId, refusal.Refusal.Refusal}, Refusals.out_of_memory}
use Rattle.machine.specs.{declared.call.{Event.Event, Outcome.{Outcome, TheVariants.Refused}}, Authority.label_of}
use Rattle.machine.specs.{Boot.IsBoot, Layout.Layout, Machine.Machine, Outcomes.IsRefused, Run.Run, Step.Step}
use Rattle.{integrity.specs.{Allowed.IsLabelled, Shrinks.{IsSame, Shrinks}}, runs.specs.declared.question.Question.Question}

-- a call was made: it is done, or its thread waits
abbrev pub IsMade : Outcome → Type 0
IsMade outcome = ¬ (IsRefused outcome)

-- the events lead from the table's boot state to the machine, and none of them is refused
pub record IsReachedBy (t : Layout) (events : List Event) (m : Machine) : Type 0 where
  pub boot : Machine
  pub booted : IsBoot t boot
  pub outcomes : List Outcome
  pub run : Run boot events outcomes m
  pub made : All IsMade outcomes

-- one of the events is refused after those before it, and not for lack of memory
pub record IsStopped (t : Layout) (events : List Event) : Type 0 where
  pub before : List Event
  pub event : Event
  pub after : List Event
  pub are : events ≡ before ++ event ∷ after
  pub m : Machine
  pub reached : IsReachedBy t before m
  pub refusal : Refusal
  pub next : Machine
  pub step : Step m event (Refused refusal) next
  pub condition : refusal ≢ out_of_memory

-- an event that isn't refused, by a thread of one label, changes, makes or removes an object of another
pub record IsChange (t : Layout) (m : Machine) (event : Event) (next : Machine) (actor object : ℕ) (id : ObjId) : Type 0 where
  pub outcome : Outcome
  pub step : Step m event outcome next
  pub made : IsMade outcome
  pub caller : label_of t m event.thread ≡ Some actor
  pub labelled : IsLabelled t m next id object
  pub changed : ¬ (IsSame m next id)

-- such an event only shrinks the object
pub record IsLoss (t : Layout) (m : Machine) (event : Event) (next : Machine) (actor object : ℕ) (id : ObjId) : Type 0 where
  pub change : IsChange t m event next actor object id
  pub shrinks : Shrinks m next id

-- such an event changes the object other than by shrinking it
pub record IsGain (t : Layout) (m : Machine) (event : Event) (next : Machine) (actor object : ℕ) (id : ObjId) : Type 0 where
  pub change : IsChange t m event next actor object id
  pub grows : ¬ (Shrinks m next id)

-- the script leads from the table's boot state to a last event that changes an object in this way
pub record EndsIn
    (t : Layout) (script : List Event) (Changes : Machine → Event → Machine → ObjId → Type 0)
    : Type 0 where
  pub before : List Event
  pub last : Event
  pub is : script ≡ before ++ last ∷ []
  pub m : Machine
  pub reached : IsReachedBy t before m
  pub next : Machine
  pub id : ObjId
  pub changes : Changes m last next id

-- the last event of a script is by a thread of one label and changes an object of another, other than by shrinking it
abbrev pub IsShown : Layout → List Event → ℕ → ℕ → Type 0
IsShown t script actor object = EndsIn t script (λ m last next id. IsGain t m last next actor object id)

-- the last event of a script is by a thread of one label and shrinks an object of another
abbrev pub IsTaken : Layout → List Event → ℕ → ℕ → Type 0
IsTaken t script actor object = EndsIn t script (λ m last next id. IsLoss t m last next actor object id)

-- the object shrinks, or changes in another way
abbrev pub GoesSo : Bool → Machine → Machine → ObjId → Type 0
GoesSo Bool.true m next id = Shrinks m next id
GoesSo Bool.false m next id = ¬ (Shrinks m next id)

-- an event is of the kind that a question asks for
abbrev pub IsSought : Layout → Question → Machine → Event → Machine → ObjId → Type 0
IsSought t question m event next id = by question.taking where
  by : Bool → Type 0
  by Bool.true = IsLoss t m event next question.actor question.object id
  by Bool.false = IsGain t m event next question.actor question.object id

-- a script answers a question: it shows that one label changes objects of the other, or takes from them
abbrev pub AnswersQuestion : Layout → Question → List Event → Type 0
AnswersQuestion t question script = by question.taking where
  by : Bool → Type 0
  by Bool.true = IsTaken t script question.actor question.object
  by Bool.false = IsShown t script question.actor question.object
