-- That in every run all steps are refused but those of threads whose labels are in a set (confine's own).
use Rattle.std.specs.Prelude.{ℕ, ◌≡◌, ◌⊎◌, Some, true}
use Rattle.base.specs.{declared.labels.Labels.Labels, Labels.is_in}
use Rattle.machine.specs.{declared.call.{Event.Event, Outcome.Outcome}, Authority.label_of, Layout.Layout}
use Rattle.{machine.specs.{Machine.Machine, Outcomes.IsRefused, Step.Step}, integrity.specs.Safe.IsReached}

abbrev pub RefusesAllBut : Layout → Labels → Type 0
RefusesAllBut t labels =
    (m next : Machine) (event : Event) (outcome : Outcome) → IsReached t m → Step m event outcome next
    → IsRefused outcome ⊎ ((a : ℕ) × (label_of t m event.thread ≡ Some a) × (is_in labels a ≡ true))
