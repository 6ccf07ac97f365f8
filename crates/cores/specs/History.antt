-- The history of a kernel that several threads share, and what makes it legal, and exact for one seat (confine's own).
use Rattle.std.specs.{List.filter, Prelude.{ℕ, ◌==◌, ◌≡◌, All, List, Some, map, slice_get}}
use Rattle.{machine.specs.Machine.Machine, kernel.specs.Legal.{Entry, IsLogBetween}, cores.specs.declared.view.Noted.Noted}

-- the history without the seats, as a log has it
abbrev pub log_of : List Noted → List Entry
log_of = map (λ noted. (noted.event, noted.outcome))

-- the entries of the seat of this number, in their order
abbrev pub own : ℕ → List Noted → List Noted
own number = filter (λ noted. noted.seat == number)

-- each entry is of a seat that there is, and its event is on the core of that seat
abbrev pub OnCores : List ℕ → List Noted → Type 0
OnCores cores = All (λ noted. slice_get cores noted.seat ≡ Some noted.event.core)

-- events and outcomes are a run from this machine, and each event is on the core of its seat
pub record IsLegal (boot : Machine) (cores : List ℕ) (history : List Noted) : Type 0 where
  pub last : Machine
  pub run : IsLogBetween boot (log_of history) last
  pub on_cores : OnCores cores history

-- the history has just these entries of the seat of this number
abbrev pub IsExactFor : ℕ → List Noted → List Noted → Type 0
IsExactFor number history mine = own number history ≡ mine
