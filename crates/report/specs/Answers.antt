-- The answers of `check`, `verify` and `run` to a table, a policy and a third file (confine's own).
use Rattle.std.specs.{declared.alloc.Global.Global, List.zip, Prelude.{ℕ, ◌≡◌, List, None, Some, Vec}}
use Rattle.base.specs.declared.edge.Edge.{Edge}
use Rattle.machine.specs.{declared.call.{Event.Event, Outcome.Outcome}, Boot.IsBoot, Layout.Layout, Machine.Machine, Run.Run}
use Rattle.{kernel.specs.Legal.Entry, policy.specs.Policy.allows}
use Rattle.verdict.specs.{declared.{denial.Denial.Denial, rules.Rules.{Rules, Rules as rules}}, ByRules.{IsAcceptedBy, IsLeastBrokenBy}}
use Rattle.{cores.specs.SplitRun.IsSplitRun, captext.specs.Policies.read_policy_of, evtext.specs.{Log.log_text, Script.read_script_of}}
use Rattle.certificate.specs.{declared.line.Line.Line, Certificate.certificate_text, Reading.read_certificate_of, Right.right_certificate}
use Rattle.{checker.specs.Verified.IsDeniedBy, reptext.specs.Reports.{IsCheckReport, accept_data, line_of}}
use Rattle.commands.specs.declared.answer.{Answer.Answer, Made.Made as made}
use Rattle.commands.specs.declared.{choices.{OnAccept.{OnAccept, OnAccept as on_accept}, Taken.Taken as taken}, end.End.End}
use Rattle.commands.specs.Commands.{Denies, Input, IsDoneOnThree, IsDoneWith, IsPlain, Output, Says}
use Rattle.forms.specs.declared.file.File.TheVariants as file

-- the answer to a verdict: it says that a table and a policy are accepted, or with status 1 why they are denied
pub data Answers (t : Layout) (Accepted : Type 0) (Denied : Denial → Type 0) (Tells : Answer → Type 0) (answer : Answer) : Type 0 where
  accepted : Accepted → Tells answer → Answers t Accepted Denied Tells answer
  denied : (denial : Denial) → Denied denial → Denies t denial answer → Answers t Accepted Denied Tells answer

-- the answer to the verdict on a table and a policy by a set of rules
abbrev pub AnswersVerdict : Rules → Layout → List Edge → (Answer → Type 0) → Answer → Type 0
AnswersVerdict set t edges = Answers t (IsAcceptedBy set t (allows edges)) (IsLeastBrokenBy set t (allows edges))

-- a text is the log of a run of the events from the table's boot state, with these outcomes
pub record IsRunOf (t : Layout) (events : List Event) (outcomes : List Outcome) (text : List ℕ) : Type 0 where
  pub boot : Machine
  pub last : Machine
  pub booted : IsBoot t boot
  pub ran : Run boot events outcomes last
  pub told : text ≡ log_text (zip events outcomes)

-- an answer is the log of a run of the events, with status 0; a listener hears the outcomes
pub record IsLogOfRun (t : Layout) (events : List Event) (answer : Answer) : Type 0 where
  pub outcomes : Vec Outcome Global
  pub log : IsRunOf t events outcomes.items answer.text.items
  pub status : answer.status ≡ 0
  pub finding : answer.finding ≡ None
  pub made : answer.made ≡ Some (made.InTurn outcomes)
  pub script : answer.script ≡ None

-- a text is this log of a run of the events by several cores from the table's boot state, where each core's events stay in their order
pub record IsSplitOf (t : Layout) (events : List Event) (log : List Entry) (text : List ℕ) : Type 0 where
  pub boot : Machine
  pub last : Machine
  pub booted : IsBoot t boot
  pub split : IsSplitRun boot events log last
  pub told : text ≡ log_text log

-- an answer is the log of such a run, with status 0; a listener hears it
pub record IsLogOfSplit (t : Layout) (events : List Event) (answer : Answer) : Type 0 where
  pub entries : Vec Entry Global
  pub log : IsSplitOf t events entries.items answer.text.items
  pub status : answer.status ≡ 0
  pub finding : answer.finding ≡ None
  pub made : answer.made ≡ Some (made.ByWorkers entries)
  pub script : answer.script ≡ None

-- the text on an acceptance: the report, or the table's certificate
abbrev pub TellsCheck : OnAccept → Layout → List Edge → List ℕ → Type 0
TellsCheck on_accept.Report t edges text = IsCheckReport t edges text
TellsCheck on_accept.Certificate t edges text = text ≡ certificate_text t (right_certificate t)

-- the answer to a check of a table against a policy
abbrev pub Checks : Rules → OnAccept → Layout → List Edge → Answer → Type 0
Checks set written t edges = AnswersVerdict set t edges (Says (TellsCheck written t edges))

-- the answer to a certificate for a table and a policy
abbrev pub Verifies : Rules → Layout → List Edge → List Line → Answer → Type 0
Verifies set t edges lines =
    Answers t (IsAcceptedBy set t (allows edges) × (lines ≡ right_certificate t)) (IsDeniedBy set t edges lines)
    (IsPlain (line_of accept_data) 0)

-- the answer to a script for a table and a policy
abbrev pub Runs : Rules → Layout → List Edge → List Event → Answer → Type 0
Runs set t edges events = AnswersVerdict set t edges (IsLogOfRun t events)

-- the answer to a script whose calls are split among the cores, by the rules of closed policies
abbrev pub AnswersSplitRun : Layout → List Edge → List Event → Answer → Type 0
AnswersSplitRun t edges events = AnswersVerdict rules.Closed t edges (IsLogOfSplit t events)

abbrev pub IsChecked : {T P O : Type 0} → Rules → OnAccept → Input T → Input P → Output O → End → Type 0
IsChecked set written = IsDoneWith taken.Table file.Policy read_policy_of (λ t. None) (Checks set written)

abbrev pub IsVerifiedWith : {T P S O : Type 0} → Rules → Input T → Input P → Input S → Output O → End → Type 0
IsVerifiedWith set = IsDoneOnThree file.Certificate read_certificate_of (Verifies set)

-- a script was run on a table and a policy, if they are accepted
abbrev pub IsRun : {T P S O : Type 0} → Rules → Input T → Input P → Input S → Output O → End → Type 0
IsRun set = IsDoneOnThree file.Script (λ t. read_script_of) (Runs set)

-- a script was run on a table and a policy by a worker for each core, if they are accepted
abbrev pub IsRunSplit : {T P S O : Type 0} → Input T → Input P → Input S → Output O → End → Type 0
IsRunSplit = IsDoneOnThree file.Script (λ t. read_script_of) AnswersSplitRun
