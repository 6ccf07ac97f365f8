-- Sets of labels to which nothing flows from without, or only through filters, and two runs that differ only in what others do
-- (confine's own; compare noninterference).
use Rattle.std.specs.Prelude.{[], ℕ, ◌∷◌, ◌≡◌, ◌⊎◌, Bool, List, Some, false, true}
use Rattle.base.specs.declared.{ids.ObjId.ObjId, kind.Kind.TheVariants.Send}
use Rattle.machine.specs.{declared.{call.{Event.Event, Outcome.Outcome}, thread.Tcb.Tcb}, Authority.label_of}
use Rattle.machine.specs.{Layout.Layout, Machine.Machine, Step.Step, WellFormed.{IsThread, WaitsAt}}
use Rattle.{integrity.specs.Shrinks.IsSame, reach.specs.Extents.Limits}
use Rattle.{flows.specs.Flowing.{DependsOn, FilterTest, FlowsBeside, FlowsTo}, noninterference.specs.Alike.WaitAlike}

-- whether a label is of a set
abbrev pub SetTest : Type 0
SetTest = ℕ → Bool

-- only labels of the set flow to labels of the set
abbrev pub FlowsOnlyWithin : Limits → SetTest → Type 0
FlowsOnlyWithin limits inside = (x y : ℕ) → inside y ≡ true → FlowsTo limits x y → inside x ≡ true

-- only labels of the set and filters flow to it, apart from flows by objects of filters
abbrev pub IsClosedBeside : Limits → FilterTest → SetTest → Type 0
IsClosedBeside limits filters inside =
    (x y : ℕ) → inside y ≡ true → FlowsBeside limits filters x y → (inside x ≡ true) ⊎ (filters x ≡ true)

-- the machines are alike to the set: each object on which a label of the set depends is the same in both
abbrev pub AreAlikeTo : Layout → Limits → SetTest → Machine → Machine → Type 0
AreAlikeTo t limits inside m n =
    (id : ObjId) (l y : ℕ) → label_of t m id ≡ Some l → inside y ≡ true → DependsOn limits y l → IsSame m n id

-- what filters show to the set is alike in both
pub record FiltersShowAlike (t : Layout) (limits : Limits) (filters : FilterTest) (inside : SetTest) (m n : Machine) : Type 0 where
  -- each object of a filter on which a label of the set depends is the same in both
  pub objects :
      (id : ObjId) (l y : ℕ) → label_of t m id ≡ Some l → filters l ≡ true → inside y ≡ true → DependsOn limits y l → IsSame m n id
  -- a thread that waits, in both, at an endpoint to which a label of the set sends waits there alike, if it or the endpoint is a filter's
  pub ways :
      (id thread : ObjId) (one other : Tcb) (l b y : ℕ) → label_of t m id ≡ Some l → label_of t m thread ≡ Some b
      → (filters l ≡ true) ⊎ (filters b ≡ true) → inside y ≡ true → limits.test y Send l ≡ true → IsThread m thread one
      → IsThread n thread other → WaitsAt one.state id → WaitsAt other.state id → WaitAlike one other

-- the thread is of a label of the set, by the boot state
abbrev pub IsOfSet : Layout → Machine → SetTest → ObjId → Type 0
IsOfSet t boot inside thread = (a : ℕ) × (label_of t boot thread ≡ Some a) × (inside a ≡ true)

-- the thread is of a filter that isn't in the set
abbrev pub IsOfFilter : Layout → Machine → FilterTest → SetTest → ObjId → Type 0
IsOfFilter t boot filters inside thread = (a : ℕ) × (label_of t boot thread ≡ Some a) × (inside a ≡ false) × (filters a ≡ true)

-- two events are the same, or both of threads that aren't of these
abbrev pub AreBeside : (ObjId → Type 0) → Event → Event → Type 0
AreBeside IsOurs event other = (other ≡ event) ⊎ ((¬ IsOurs event.thread) × (¬ IsOurs other.thread))

-- two scripts differ, position by position, only in events of threads that aren't of these
abbrev pub DifferBeside : (ObjId → Type 0) → List Event → List Event → Type 0
DifferBeside IsOurs [] [] = Unit {0}
DifferBeside IsOurs (event ∷ events) (other ∷ others) = AreBeside IsOurs event other × DifferBeside IsOurs events others
DifferBeside IsOurs _ _ = ⊥

-- an event of one of these threads has the same outcome in both, position by position
abbrev pub EndAlike : (ObjId → Type 0) → List Event → List Outcome → List Outcome → Type 0
EndAlike IsOurs [] outcomes ends = Unit {0}
EndAlike IsOurs (event ∷ events) (outcome ∷ outcomes) (other ∷ ends) =
    (IsOurs event.thread → other ≡ outcome) × EndAlike IsOurs events outcomes ends
EndAlike IsOurs (event ∷ events) _ _ = ⊥

-- one event in each of two runs, and the machines after them; the events differ only if both are of threads outside the set
pub record IsPosition
    (t : Layout) (boot : Machine) (limits : Limits) (filters : FilterTest) (inside : SetTest) (event other : Event)
    (next after : Machine) : Type 0 where
  pub beside : AreBeside (IsOfSet t boot inside) event other
  -- after each event
  pub shows : FiltersShowAlike t limits filters inside next after
  -- all on which the set depends is alike after an event of a filter's thread
  pub filtered :
      IsOfFilter t boot filters inside event.thread ⊎ IsOfFilter t boot filters inside other.thread → AreAlikeTo t limits inside next after

-- two runs are so at each position: from the machines m and n, with a list of events and one of outcomes each, to two machines
abbrev pub RunsBeside :
    Layout → Machine → Limits → FilterTest → SetTest → Machine → Machine → List Event → List Outcome → List Event → List Outcome
    → Machine → Machine → Type 0
RunsBeside t boot limits filters inside m n [] [] [] [] last end = (m ≡ last) × (n ≡ end)
RunsBeside t boot limits filters inside m n (event ∷ events) (outcome ∷ outcomes) (other ∷ others) (ends ∷ more) last end =
    (next : Machine) × (after : Machine) × Step m event outcome next × Step n other ends after
    × IsPosition t boot limits filters inside event other next after
    × RunsBeside t boot limits filters inside next after events outcomes others more last end
RunsBeside t boot limits filters inside m n _ _ _ _ last end = ⊥
