-- Workers, one for each core, which make the script's events on it: what they are given, and what each leaves (confine's own).
use Rattle.std.{specs.{List.list_any, Prelude.{[], ℕ, ◌+◌, ◌<◌, ◌==◌, ◌≡◌, ◌⊎◌, Bool, List, Some, if◌then◌else◌, length, map, slice_get}}, proofs.Common.{suc, zero}}
use Rattle.base.specs.declared.core_number.TheConstants.CoreNo as CoreNo
use Rattle.machine.specs.declared.call.Event.{Event}
use Rattle.cores.specs.{declared.view.Noted.Noted, Seats.{IsOf, Known, Ticket}, SplitRun.on_core}

-- all cores that there can be, each at the place of its number
pub record AreAllCores (cores : List ℕ) : Type 0 where
  pub count : length cores ≡ CoreNo.COUNT
  pub each : (number core : ℕ) → slice_get cores number ≡ Some core → core ≡ number

-- the kernel's seat has made no entry
pub record IsUnused (t : Ticket) (seat : Known) : Type 0 where
  pub of : IsOf t seat
  pub new : seat.mine ≡ []

-- whether the script has events on a core
abbrev pub has_events : List Event → ℕ → Bool
has_events events core = list_any (λ event. event.core == core) events

-- for each core, whether the script has events on it
abbrev pub AreBusy : List Event → List Bool → Type 0
AreBusy events busy = (core : ℕ) → core < CoreNo.COUNT → slice_get busy core ≡ Some (has_events events core)

-- the number of a core's worker at the gate: how many of the cores below have events
abbrev pub worker_number : List Event → ℕ → ℕ
worker_number events zero = 0
worker_number events (suc core) = worker_number events core + (if has_events events core then 1 else 0)

abbrev pub events_of : List Noted → List Event
events_of = map (λ noted. noted.event)

-- the seat has made the script's events on its core, in their order; or it has made fewer than these, and saw the log full
pub record Worked (t : Ticket) (events : List Event) (before after : Known) : Type 0 where
  pub of : IsOf t after
  pub number : after.number ≡ before.number
  pub core : after.core ≡ before.core
  pub made :
      (events_of after.mine ≡ on_core after.core events)
      ⊎ ((length after.mine < length (on_core after.core events)) × (length after.seen ≡ t.size))
