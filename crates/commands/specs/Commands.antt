-- Commands: what one does with its files and its output, and how it ends (confine's own).
use Rattle.std.specs.{Io.KnownBytes.Appends, Prelude.{[], ℕ, ◌∷◌, ◌≡◌, ◌≤◌, ◌⊎◌, Bool, Err, IfSome, IsOk, IsOkAnd, List, None, Ok, Option}}
use Rattle.{std.specs.Prelude.{Result, Some, false, true}, base.specs.declared.edge.Edge.Edge, words.specs.declared.faults.Fault.Fault}
use Rattle.{devices.specs.Devices.AppendsBeginning, forms.specs.declared.file.File.{File, TheVariants.{New, Policy, Table}}}
use Rattle.{microkit.specs.Description.Description, machine.specs.Layout.Layout}
use Rattle.{verdict.specs.{declared.denial.Denial.Denial, Verdict.rule_name}, captext.specs.{Policies.read_policy_of, Tables.read_table_of}}
use Rattle.{reptext.specs.{Places.place_names, Reports.{denial_report, fault_report}}, importing.specs.declared.pieces.Minting.Minting}
use Rattle.commands.specs.declared.{answer.Answer.Answer, choices.Taken.Taken, end.{Asked.Asked, End.End, Misuse.Misuse}}
use Rattle.commands.specs.declared.{given.Given.Given, listener.Finding.{Finding, Finding as finding}}
use Rattle.commands.specs.{declared.load.{Stop.{Stop, Stop as stop}, Three.Three, Two.Two, With.With}, Described.Described}
use Rattle.commands.specs.Ends.{IfCannotWrite, IfMisused, IfNoLabel, IfStatus, IfUnwritten, is_unwritable, status_of, unread_file}
use Rattle.commands.specs.Files.{Contents, described_contents, faulty, first_failed, given_contents, misused}
use Rattle.commands.specs.{Files.{three_contents, two_contents, unknown, unread_of, whole, with_contents}, Given.layout_of}
use Rattle.forms.specs.declared.file.File.TheVariants as files

-- a source, before and after a command: the bytes that it had left, where they are known, and whether it failed
pub record Input (S : Type 0) : Type 0 where
  pub old : S
  pub new : S
  pub bytes : Option (List ℕ)
  pub failed : Bool

abbrev pub input : {S : Type 0} → (S → Option (List ℕ)) → (S → Bool) → S → S → Input S
input remaining failed old new = record { old = old; new = new; bytes = remaining old; failed = failed new }

-- a sink, before and after a command: the bytes that it holds, where they are known, whether it failed, and whether a flush came last
pub record Output (O : Type 0) : Type 0 where
  pub old : O
  pub new : O
  pub before : Option (List ℕ)
  pub after : Option (List ℕ)
  pub failed : Bool
  pub is_flushed : Bool

abbrev pub output : {O : Type 0} → (O → Option (List ℕ)) → (O → Bool) → (O → Bool) → O → O → Output O
output contents failed is_flushed old new =
    record { old = old; new = new; before = contents old; after = contents new; failed = failed new; is_flushed = is_flushed new }

-- a table was read, and is a text
abbrev pub HasTable : {T : Type 0} → Input T → Type 0
HasTable table = (table.failed ≡ false) × IfSome table.bytes (λ t. IsOk (read_table_of t))

-- a table and a policy were read, and are texts
abbrev pub HasPolicy : {T P : Type 0} → Input T → Input P → Type 0
HasPolicy table policy =
    (table.failed ≡ false) × (policy.failed ≡ false)
    × IfSome table.bytes (λ t. IsOkAnd (read_table_of t) (λ layout. IfSome policy.bytes (λ p. IsOk (read_policy_of layout p))))

-- files hold what they should, as far as that is known
abbrev pub MayBeWhole : {X : Type 0} → Contents X → Type 0
MayBeWhole (whole x) = Unit {0}
MayBeWhole (faulty file text table fault) = ⊥
MayBeWhole (misused why) = ⊥
MayBeWhole unknown = Unit {0}

-- a system was read, and is the text of one
abbrev pub HasSystem : {T : Type 0} → Taken → Input T → Type 0
HasSystem taken system = (system.failed ≡ false) × MayBeWhole (given_contents taken system.bytes)

-- a listener hears of an answer nothing but its text and status
pub record HasTextAlone (answer : Answer) : Type 0 where
  pub finding : answer.finding ≡ None
  pub made : answer.made ≡ None
  pub script : answer.script ≡ None

-- an answer of a text and a status alone
pub record IsPlain (told : List ℕ) (exit : ℕ) (answer : Answer) : Type 0 where
  pub text : answer.text.items ≡ told
  pub status : answer.status ≡ exit
  pub bare : HasTextAlone answer

-- an answer with status 0 and a text of which this is so, and nothing else
pub record Says (IsSo : List ℕ → Type 0) (answer : Answer) : Type 0 where
  pub so : IsSo answer.text.items
  pub status : answer.status ≡ 0
  pub bare : HasTextAlone answer

-- an answer with status 1 and a text, and the finding of which this is so
pub record TellsFinding (told : List ℕ) (IsFinding : Finding → Type 0) (answer : Answer) : Type 0 where
  pub text : answer.text.items ≡ told
  pub status : answer.status ≡ 1
  pub finding : Finding
  pub found : answer.finding ≡ Some finding
  pub is_so : IsFinding finding
  pub made : answer.made ≡ None
  pub script : answer.script ≡ None

-- a finding is this denial of a table and a policy, or of a certificate
abbrev pub IsDenied : Denial → Finding → Type 0
IsDenied denial (finding.Denied told) = told.value ≡ denial
IsDenied denial _ = ⊥

-- an answer tells of a denial
abbrev pub Denies : Layout → Denial → Answer → Type 0
Denies t denial = TellsFinding (denial_report (rule_name denial) (place_names t denial)) (IsDenied denial)

-- a text and a status are the answer to what the files hold, where that is known: the report of the first fault, or what the
-- command judges of the values
abbrev pub IsAnswerTo : {X : Type 0} → (X → Answer → Type 0) → Contents X → List ℕ → ℕ → Type 0
IsAnswerTo judges (whole x) text status = (answer : Answer) × judges x answer × (answer.text.items ≡ text) × (answer.status ≡ status)
IsAnswerTo judges (faulty file faulty_text table fault) text status = (text ≡ fault_report fault.number file fault.line) × (status ≡ 2)
IsAnswerTo judges (misused why) text status = ⊥
IsAnswerTo judges unknown text status = Unit {0}

-- the first label that a command asks about and the table lacks
abbrev pub IsUnlabelled : {X : Type 0} → (X → Option Asked) → Contents X → Asked → Type 0
IsUnlabelled lacks (whole x) asked = lacks x ≡ Some asked
IsUnlabelled lacks (faulty file text table fault) asked = ⊥
IsUnlabelled lacks (misused why) asked = ⊥
IsUnlabelled {X} lacks unknown asked = (x : X) × (lacks x ≡ Some asked)

-- why the system isn't read as it was given
abbrev pub IsMisused : {X : Type 0} → Contents X → Misuse → Type 0
IsMisused (whole x) told = ⊥
IsMisused (faulty file text table fault) told = ⊥
IsMisused (misused why) told = told ≡ why
IsMisused unknown told = Unit {0}

-- no label is lacking to a command that asks about none
abbrev pub no_label : Layout → Option Asked
no_label t = None

-- a command was carried out on files with these contents, of which `failed` is the first whose device failed: `lacks` finds the label that
-- the table lacks, if the command asks about such a one, and `judges` says which answers it may have
pub record IsCarriedOut
    {X O : Type 0} (lacks : X → Option Asked) (judges : X → Answer → Type 0) (contents : Contents X) (failed : Option File)
    (out : Output O) (end : End) : Type 0 where
  -- what was written is the answer to the bytes of the files, or a beginning of it, or nothing
  pub answered : IfStatus end (λ status. (text : List ℕ) × IsAnswerTo judges contents text status × Appends out.before out.after text)
  pub begun : IfCannotWrite end ((text : List ℕ) × (status : ℕ) × IsAnswerTo judges contents text status
      × AppendsBeginning out.before out.after text)
  pub unwritten : IfUnwritten end (out.new ≡ out.old)
  -- a label is told that the table lacks, or why the system isn't read as it was given
  pub unlabelled : IfNoLabel end (IsUnlabelled lacks contents)
  pub misused : IfMisused end (IsMisused contents)
  pub flushed : IfStatus end (λ status. out.is_flushed ≡ true)
  pub exit : status_of end ≤ 2
  -- a device's failure is told exactly where it failed
  pub unread : unread_file end ≡ failed
  pub unwritable : is_unwritable end ≡ out.failed

-- a command of a description alone, whose capabilities have these rights, was carried out
abbrev pub IsDoneOnDescription : {S O : Type 0} → Minting → (Described → Answer → Type 0) → Input S → Output O → End → Type 0
IsDoneOnDescription minting judges description =
    IsCarriedOut (λ d. None) judges (described_contents minting description.bytes) (first_failed ((files.Description, description.failed) ∷ []))

-- a command of a system alone was carried out
abbrev pub IsDoneOnSystem :
    {T O : Type 0} → Taken → (Layout → Option Asked) → (Layout → Answer → Type 0) → Input T → Output O → End → Type 0
IsDoneOnSystem taken lacks judges system =
    IsCarriedOut (λ s. lacks (layout_of s)) (λ s. judges (layout_of s)) (given_contents taken system.bytes)
    (first_failed ((Table, system.failed) ∷ []))

-- a command of two systems was carried out
pub record IsDoneOnTwo
    {S T O : Type 0} (taken : Taken) (judges : Layout → Layout → Answer → Type 0) (old : Input S) (new : Input T) (out : Output O)
    (end : End) : Type 0 where
  pub done : IsCarriedOut (λ s. None) (λ s. judges (layout_of s.old) (layout_of s.new)) (two_contents taken old.bytes new.bytes)
      (first_failed ((Table, old.failed) ∷ (New, new.failed) ∷ [])) out end
  -- the new system's file is as it was, or the old one was read and is a text
  pub new_waits : (new.new ≡ new.old) ⊎ HasSystem taken old

-- a command of a system and a second file of this name, which is read by `read`, was carried out
pub record IsDoneWith
    {T S O X : Type 0} (taken : Taken) (name : File) (read : Layout → List ℕ → Result X Fault) (lacks : Layout → Option Asked)
    (judges : Layout → X → Answer → Type 0) (system : Input T) (second : Input S) (out : Output O) (end : End) : Type 0 where
  pub done : IsCarriedOut (λ (w : With X). lacks (layout_of w.system)) (λ (w : With X). judges (layout_of w.system) w.second)
      (with_contents taken name read system.bytes second.bytes)
      (first_failed ((Table, system.failed) ∷ (name, second.failed) ∷ [])) out end
  -- the second file is as it was, or the first was read and is a text
  pub second_waits : (second.new ≡ second.old) ⊎ HasSystem taken system

-- a command of a table, a policy and a third file of this name, which is read by `read`, was carried out
pub record IsDoneOnThree
    {T P S O X : Type 0} (name : File) (read : Layout → List ℕ → Result X Fault) (judges : Layout → List Edge → X → Answer → Type 0)
    (table : Input T) (policy : Input P) (third : Input S) (out : Output O) (end : End) : Type 0 where
  pub done : IsCarriedOut (λ s. None) (λ (s : Three X). judges s.table s.policy s.third)
      (three_contents name read table.bytes policy.bytes third.bytes)
      (first_failed ((Table, table.failed) ∷ (Policy, policy.failed) ∷ (name, third.failed) ∷ [])) out end
  pub policy_waits : (policy.new ≡ policy.old) ⊎ HasTable table
  pub third_waits : (third.new ≡ third.old) ⊎ HasPolicy table policy

-- an answer is what the command judges if no label is lacking, and only memory stands in its way; else the label is told
abbrev pub IsJudgedSo : Option Asked → (Answer → Type 0) → Result Answer Stop → Type 0
IsJudgedSo (Some asked) judges answer = answer ≡ Err (stop.NoLabel asked)
IsJudgedSo None judges (Ok answer) = judges answer × (answer.status ≤ 2)
IsJudgedSo None judges (Err why) = why ≡ stop.NoMemory

-- what was loaded was judged so; why it wasn't loaded is why there is no answer
abbrev pub IsJudged : {X : Type 0} → (X → Option Asked) → (X → Answer → Type 0) → Result X Stop → Result Answer Stop → Type 0
IsJudged lacks judges (Ok x) answer = IsJudgedSo (lacks x) (judges x) answer
IsJudged lacks judges (Err why) answer = answer ≡ Err why

-- a description and its table were judged so
abbrev pub DescriptionIsJudged : (Described → Answer → Type 0) → Result Described Stop → Result Answer Stop → Type 0
DescriptionIsJudged = IsJudged (λ d. None)

-- a system was judged so
abbrev pub SystemIsJudged : (Layout → Option Asked) → (Layout → Answer → Type 0) → Result Given Stop → Result Answer Stop → Type 0
SystemIsJudged lacks judges = IsJudged (λ s. lacks (layout_of s)) (λ s. judges (layout_of s))

-- two systems were judged so
abbrev pub TwoIsJudged : (Layout → Layout → Answer → Type 0) → Result Two Stop → Result Answer Stop → Type 0
TwoIsJudged judges = IsJudged (λ s. None) (λ s. judges (layout_of s.old) (layout_of s.new))

-- a system and what a second file holds were judged so
abbrev pub WithIsJudged :
    {X : Type 0} → (Layout → Option Asked) → (Layout → X → Answer → Type 0) → Result (With X) Stop → Result Answer Stop → Type 0
WithIsJudged lacks judges = IsJudged (λ w. lacks (layout_of w.system)) (λ w. judges (layout_of w.system) w.second)

-- what three files hold was judged so
abbrev pub ThreeIsJudged : {X : Type 0} → (Layout → List Edge → X → Answer → Type 0) → Result (Three X) Stop → Result Answer Stop → Type 0
ThreeIsJudged judges = IsJudged (λ s. None) (λ s. judges s.table s.policy s.third)

-- the text and the status that are told: the answer's, or those of the report of a fault
abbrev pub report_of : Result Answer Stop → Option (List ℕ × ℕ)
report_of (Ok answer) = Some (answer.text.items, answer.status)
report_of (Err (stop.Faulty file fault)) = Some (fault_report fault.number file fault.line, 2)
report_of (Err _) = None

-- a text with its status was written, or a beginning of it, or nothing
pub record IsWritten {O : Type 0} (report : Option (List ℕ × ℕ)) (out : Output O) (end : End) : Type 0 where
  pub whole : IfStatus end (λ status. (text : List ℕ) × (report ≡ Some (text, status)) × Appends out.before out.after text)
  pub begun : IfCannotWrite end ((text : List ℕ) × (status : ℕ) × (report ≡ Some (text, status))
      × AppendsBeginning out.before out.after text)
  pub unwritten : IfUnwritten end (out.new ≡ out.old)
  pub flushed : IfStatus end (λ status. out.is_flushed ≡ true)
  pub unwritable : is_unwritable end ≡ out.failed

-- an answer was told, or why there is none
pub record IsTold {O : Type 0} (answer : Result Answer Stop) (out : Output O) (end : End) : Type 0 where
  pub written : IsWritten (report_of answer) out end
  pub unlabelled : IfNoLabel end (λ asked. answer ≡ Err (stop.NoLabel asked))
  pub misused : IfMisused end (λ why. answer ≡ Err (stop.Misused why))
  pub unread : unread_file end ≡ unread_of answer
