-- A run with one more step.
use Rattle.std.proofs.Common.{[], ◌++◌, ◌∷◌, List, refl, subst, sym}
use Rattle.machine.specs.{declared.call.{Event.Event, Outcome.Outcome}, Machine.Machine, Run.Run, Step.Step}

pub run_further :
    (first : Machine) (events : List Event) (outcomes : List Outcome) (last : Machine) (event : Event) (outcome : Outcome)
    (next : Machine)
    → Run first events outcomes last → Step last event outcome next
    → Run first (events ++ event ∷ []) (outcomes ++ outcome ∷ []) next
run_further first [] [] last event outcome next same step =
    (next, subst (λ from. Step from event outcome next) (sym same) step, refl)
run_further first [] (o ∷ os) last event outcome next ran step = absurd ran
run_further first (e ∷ es) [] last event outcome next ran step = absurd ran
run_further first (e ∷ es) (o ∷ os) last event outcome next ran step =
    (ran.0, ran.1, run_further ran.0 es os last event outcome next ran.2 step)
