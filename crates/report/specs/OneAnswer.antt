-- That files have one answer, whenever and wherever a command reads them (confine's own).
use Rattle.std.specs.{List.zip, Prelude.{ℕ, ◌≡◌, All, List, Result, Some}}
use Rattle.{base.specs.declared.edge.Edge.Edge, words.specs.declared.faults.Fault.Fault}
use Rattle.{forms.specs.declared.file.File.{File, File as file}, machine.specs.{declared.call.Event.Event, Layout.Layout}}
use Rattle.{kernel.specs.Legal.IsLack, verdict.specs.declared.rules.Rules.Rules, captext.specs.Policies.read_policy_of}
use Rattle.commands.specs.declared.{answer.Answer.Answer, choices.Taken.Taken as taken, load.{Three.Three, With.With}}
use Rattle.commands.specs.{Commands.IsAnswerTo, Files.{Contents, three_contents, with_contents}, Given.layout_of}
use Rattle.report.specs.Answers.{AnswersVerdict, IsLogOfRun}

-- two answers to the same files have the same text and status
abbrev pub IsAnsweredOnce : {X : Type 0} → (X → Answer → Type 0) → Contents X → Type 0
IsAnsweredOnce judges contents =
    (text other : List ℕ) (status another : ℕ) → IsAnswerTo judges contents text status → IsAnswerTo judges contents other another
    → (text ≡ other) × (status ≡ another)

-- the files of a command have one answer, whatever bytes they hold

abbrev pub TwoHaveOneAnswer : (Layout → List Edge → Answer → Type 0) → Type 0
TwoHaveOneAnswer judges =
    (table policy : List ℕ)
    → IsAnsweredOnce (λ (w : With (List Edge)). judges (layout_of w.system) w.second)
    (with_contents taken.Table file.Policy read_policy_of (Some table) (Some policy))

abbrev pub ThreeHaveOneAnswer : {X : Type 0} → File → (Layout → List ℕ → Result X Fault) → (Layout → List Edge → X → Answer → Type 0) → Type 0
ThreeHaveOneAnswer {X} name read judges =
    (table policy third : List ℕ)
    → IsAnsweredOnce (λ (s : Three X). judges s.table s.policy s.third) (three_contents name read (Some table) (Some policy) (Some third))

-- an answer is the log of a run of the events from the boot state of the table, in which no call was refused memory
pub record IsLogInMemory (t : Layout) (events : List Event) (answer : Answer) : Type 0 where
  pub log : IsLogOfRun t events answer
  pub unrefused : All (λ entry. ¬ IsLack entry.0 entry.1) (zip events log.outcomes.items)

-- the answer to a script by a set of rules, if no call is refused memory
abbrev pub RunsInMemory : Rules → Layout → List Edge → List Event → Answer → Type 0
RunsInMemory set t edges events = AnswersVerdict set t edges (IsLogInMemory t events)
