-- Legal logs: their events and outcomes are a run; where other logs stop, and the machine there (confine's own).
use Rattle.std.specs.Prelude.{ℕ, ◌≡◌, ◌≢◌, ◌≤◌, Bool, Err, List, None, Ok, Option, Result, Some, length, map, slice_get, take}
use Rattle.base.specs.{declared.refusal.Refusal.Refusal, Refusals.out_of_memory}
use Rattle.machine.specs.{declared.call.{Event.Event, Outcome.{Outcome, TheVariants.Refused}}, Machine.Machine, Run.Run, Step.Step}
use Rattle.machine.specs.Step.{step_of, takes_memory}

abbrev pub Entry : Type 0
Entry = Event × Outcome

-- the entries lead from one machine to another: their events and outcomes are a run
abbrev pub IsLogBetween : Machine → List Entry → Machine → Type 0
IsLogBetween first entries last = Run first (map (λ entry. entry.0) entries) (map (λ entry. entry.1) entries) last

-- the entries are a run up to one that no step makes
pub record StopsAt (first : Machine) (entries : List Entry) (at : ℕ) : Type 0 where
  pub entry : Entry
  pub here : slice_get entries at ≡ Some entry
  pub last : Machine
  pub led : IsLogBetween first (take at entries) last
  pub stuck : (next : Machine) → ¬ (Step last entry.0 entry.1 next)

-- the machine after an event, if there is memory
abbrev pub next_of : Machine → Event → Machine
next_of m event = (step_of m event).1

-- the event has this outcome; or no step of it has, and it ended as it does if there is memory
abbrev pub Follows : Machine → Event → Outcome → Machine → Bool → Type 0
Follows old event outcome new Bool.true = Step old event outcome new
Follows old event outcome new Bool.false = ((next : Machine) → ¬ (Step old event outcome next)) × (new ≡ next_of old event)

abbrev pub IsLack : Event → Outcome → Type 0
IsLack event outcome = (takes_memory event.call ≡ Bool.true) × (outcome ≡ Refused out_of_memory)

-- a call that takes memory may end for want of it, and the outcome claims otherwise
pub record MayLack (m : Machine) (event : Event) (outcome : Outcome) : Type 0 where
  pub takes : takes_memory event.call ≡ Bool.true
  pub lacking : Step m event (Refused out_of_memory) m
  pub otherwise : outcome ≢ Refused out_of_memory

-- the entries are a run up to one that may lack memory, and claims otherwise
pub record LacksMemoryIn (first : Machine) (entries : List Entry) : Type 0 where
  pub at : ℕ
  pub entry : Entry
  pub here : slice_get entries at ≡ Some entry
  pub last : Machine
  pub led : IsLogBetween first (take at entries) last
  pub lack : MayLack last entry.0 entry.1

-- the machine that a replay leaves: where all entries lead; after the event of an entry that is no step, which ended otherwise; or before
-- an entry that lacks memory
abbrev pub IsLeftAt : Machine → List Entry → Machine → Result (Option ℕ) Refusal → Type 0
IsLeftAt first entries last (Ok None) = IsLogBetween first entries last
IsLeftAt first entries last (Ok (Some at)) = (stop : StopsAt first entries at) × (last ≡ next_of stop.last stop.entry.0)
IsLeftAt first entries last (Err _) = (lack : LacksMemoryIn first entries) × (last ≡ lack.last)

-- the events of the first entries lead there, however they end
pub record IsReachedIn (first : Machine) (entries : List Entry) (last : Machine) : Type 0 where
  pub count : ℕ
  pub within : count ≤ length entries
  pub outcomes : List Outcome
  pub ran : Run first (map (λ entry. entry.0) (take count entries)) outcomes last
