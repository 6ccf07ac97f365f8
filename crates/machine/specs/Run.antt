-- Runs: a list of events from a machine, with the outcome of each and the machine after the last.
use Rattle.std.specs.Prelude.{[], ◌∷◌, ◌≡◌, List}
use Rattle.machine.specs.{declared.call.{Event.Event, Outcome.Outcome}, Machine.Machine, Step.Step}

-- the events lead from the first machine to the last with these outcomes, one for each event
abbrev pub Run : Machine → List Event → List Outcome → Machine → Type 0
Run first [] [] last = first ≡ last
Run first [] (outcome ∷ outcomes) last = ⊥
Run first (event ∷ events) [] last = ⊥
Run first (event ∷ events) (outcome ∷ outcomes) last =
    (next : Machine) × Step first event outcome next × Run next events outcomes last
