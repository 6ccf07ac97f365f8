-- A run that is made of a script by several cores, each in the script's order (confine's own).
use Rattle.std.specs.{List.filter, Prelude.{ℕ, ◌<◌, ◌==◌, ◌≡◌, List, length, map}}
use Rattle.{machine.specs.{declared.call.Event.Event, Machine.Machine}, kernel.specs.Legal.{Entry, IsLogBetween}}
use Rattle.base.specs.declared.core_number.TheConstants.CoreNo as CoreNo

-- the events of this core, in their order
abbrev pub on_core : ℕ → List Event → List Event
on_core core = filter (λ event. event.core == core)

-- the log is a run; its events on each core are the script's, in the script's order, and it has as many entries as the script has
-- events
pub record IsSplitRun (boot : Machine) (events : List Event) (log : List Entry) (last : Machine) : Type 0 where
  pub ran : IsLogBetween boot log last
  pub each : (core : ℕ) → core < CoreNo.COUNT → on_core core (map (λ entry. entry.0) log) ≡ on_core core events
  pub count : length log ≡ length events
