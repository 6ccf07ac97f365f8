-- The answers of `replay` to a table, a policy and a log (confine's own).
use Rattle.std.specs.Prelude.{ℕ, ◌+◌, ◌≡◌, ◌⊎◌, List, None, Option, Some, length, slice_get, take}
use Rattle.{base.specs.declared.edge.Edge.Edge, forms.specs.declared.file.File.File as file}
use Rattle.machine.specs.{declared.call.Outcome.Outcome, Boot.IsBoot, Layout.Layout, Machine.Machine, Step.Step, WellFormed.kind_of}
use Rattle.{kernel.specs.Legal.{Entry, IsLogBetween, StopsAt}, policy.specs.Policy.allows, integrity.specs.Confined.IsConfined}
use Rattle.verdict.specs.{declared.denial.Denial.Denial, Rules.Excess, Verdict.{IsOutside, excess_of, rule_name}}
use Rattle.{evtext.specs.Log.read_log_of, reptext.specs.{Places.place_names_by, Reports.{illegal_data, line_of, outside_data, within_data}}}
use Rattle.commands.specs.declared.{answer.Answer.Answer, end.End.End, listener.Finding.{Finding, Finding as finding}}
use Rattle.commands.specs.Commands.{TellsFinding, Input, IsDoneOnThree, IsPlain, Output}

-- the log is a run from the table's boot state, which leads to its last state
abbrev pub IsReplayedTo : Layout → List Entry → Machine → Type 0
IsReplayedTo t entries last = (boot : Machine) × IsBoot t boot × IsLogBetween boot entries last

-- the entries before are a run from the table's boot state, and the event of the entry can have this outcome next
pub record IsAnsweredAt (t : Layout) (entries : List Entry) (at : ℕ) (came : Outcome) : Type 0 where
  pub entry : Entry
  pub here : slice_get entries at ≡ Some entry
  pub before : Machine
  pub led : IsReplayedTo t (take at entries) before
  pub next : Machine
  pub stepped : Step before entry.0 came next

-- the outcome that the kernel answers to an entry's event; or none, if there is no such entry, or those before it are no run from the
-- table's boot state
abbrev pub AnswersAt : Layout → List Entry → ℕ → Option Outcome → Type 0
AnswersAt t entries at (Some came) = IsAnsweredAt t entries at came
AnswersAt t entries at None = (slice_get entries at ≡ None) ⊎ ((boot : Machine) × (stop : ℕ) × IsBoot t boot × StopsAt boot (take at entries) stop)

-- the least place where a machine's authority lies outside the policy
abbrev pub IsFirstOutside : Layout → List Edge → Machine → Denial → Type 0
IsFirstOutside t edges m denial = (place : Excess) × (excess_of denial ≡ Some place) × IsOutside t (allows edges) m place

-- a finding is that the last state of a log lies outside there
abbrev pub IsOutsideAt : Denial → Finding → Type 0
IsOutsideAt denial (finding.Outside told) = told.value ≡ denial
IsOutsideAt denial _ = ⊥

-- the answer: the log is legal and its last state lies within the policy; or where it lies outside; or the log isn't legal, and which entry
-- is the first that is no step
pub data Replays (t : Layout) (edges : List Edge) (entries : List Entry) (answer : Answer) : Type 0 where
  within : (last : Machine) → IsReplayedTo t entries last → IsConfined t (allows edges) last
      → IsPlain (line_of (within_data (length entries))) 0 answer → Replays t edges entries answer
  outside : (last : Machine) (denial : Denial) → IsReplayedTo t entries last → IsFirstOutside t edges last denial
      → TellsFinding (line_of (outside_data (length entries) (rule_name denial) (place_names_by (kind_of last) t denial)))
      (IsOutsideAt denial) answer → Replays t edges entries answer
  illegal : (boot : Machine) (at : ℕ) → IsBoot t boot → StopsAt boot entries at
      → TellsFinding (line_of (illegal_data (at + 1))) (λ told. told ≡ finding.Illegal (at + 1)) answer → Replays t edges entries answer

-- a log was replayed on a table and a policy, accepted or not
abbrev pub IsReplayed : {T P S O : Type 0} → Input T → Input P → Input S → Output O → End → Type 0
IsReplayed = IsDoneOnThree file.Log (λ t. read_log_of) Replays
