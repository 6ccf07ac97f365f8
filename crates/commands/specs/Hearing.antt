-- Listeners: what one hears of a command (confine's own).
use Rattle.std.specs.Prelude.{ℕ, ◌≡◌, Err, List, None, Ok, Option, Result}
use Rattle.{base.specs.declared.edge.Edge.Edge, words.specs.declared.faults.Fault.Fault, forms.specs.declared.file.File.File}
use Rattle.machine.specs.{declared.call.{Event.Event, Outcome.Outcome}, Layout.Layout}
use Rattle.{captext.specs.Drafts.Draft, claims.specs.declared.claim.Claim.Claim}
use Rattle.commands.specs.declared.{answer.Answer.Answer, choices.Taken.Taken, end.{Asked.Asked, End.End}}
use Rattle.commands.specs.declared.{files.Files.{Files, Files as heard}, given.Given.Given, load.Stop.{Stop, Stop as stop}}
use Rattle.commands.specs.{declared.load.{Three.Three, With.With}, Commands.{IsJudged, IsTold, Output}, Described.Described}
use Rattle.commands.specs.{Files.{Contents, IsLoadedAs, given_contents, three_contents, two_contents, with_contents}, Given.layout_of}
use Rattle.commands.specs.Files as files

-- what the files of a command hold
pub data Held : Type 0 where
  description : Described → Held
  system : Given → Held
  compared : Given → Given → Held
  policy : Given → List Edge → Held
  draft : Given → Draft → Held
  claims : Given → List (Option Claim) → Held
  certificate : Layout → List Edge → Held
  script : Layout → List Edge → List Event → Held
  log : Layout → List Edge → List (Event × Outcome) → Held

abbrev pub held_of : Files → Held
held_of (heard.Description d) = description d.now
held_of (heard.System given) = system given.now
held_of (heard.Compared old new) = compared old.now new.now
held_of (heard.Policy given edges) = policy given.now edges.now
held_of (heard.Draft given read) = draft given.now read.now
held_of (heard.Claims given lines) = claims given.now lines.now
held_of (heard.Certificate table edges) = certificate table.now edges.now
held_of (heard.Script table edges events) = script table.now edges.now events.now
held_of (heard.Log table edges entries) = log table.now edges.now entries.now

-- a faulty text of a file, with the table that it was read by, if that is another; what was judged, and the answer; or a label that the
-- table lacks
pub data Hearing : Type 0 where
  faulty : File → List ℕ → Option Layout → Fault → Hearing
  answered : Held → Answer → Hearing
  unlabelled : Layout → Asked → Hearing

-- a listener hears, of what stops a load, a file's fault alone
abbrev pub HearsStop : {L : Type 0} → (L → Hearing → L → Type 0) → List ℕ → Option Layout → Stop → L → L → Type 0
HearsStop Hears text table (stop.Faulty file fault) old new = Hears old (faulty file text table fault) new
HearsStop Hears text table _ old new = new ≡ old

-- the fault of what the files hold is heard, with its text and the table that it was read by; or, where their bytes aren't known, the fault
-- that is told, with some text
abbrev pub HearsText : {L X : Type 0} → (L → Hearing → L → Type 0) → Contents X → Stop → L → L → Type 0
HearsText Hears (files.whole x) why old new = ⊥
HearsText Hears (files.faulty file text table fault) why old new = Hears old (faulty file text table fault) new
HearsText Hears (files.misused told) why old new = ⊥
HearsText Hears files.unknown why old new = (text : List ℕ) × (table : Option Layout) × HearsStop Hears text table why old new

-- a listener hears the fault of a text for which files couldn't be loaded; else nothing
abbrev pub HearsFault : {L X : Type 0} → (L → Hearing → L → Type 0) → Contents X → Result X Stop → L → L → Type 0
HearsFault Hears contents (Ok x) old new = new ≡ old
HearsFault Hears contents (Err (stop.Faulty file fault)) old new = HearsText Hears contents (stop.Faulty file fault) old new
HearsFault Hears contents (Err _) old new = new ≡ old

-- an answer to what was loaded is heard, or the label that its table lacks: each once, and nothing else
abbrev pub HearsAnswer :
    {L X : Type 0} → (L → Hearing → L → Type 0) → (X → Layout) → (X → Held) → Result X Stop → Result Answer Stop → L → L → Type 0
HearsAnswer Hears layout held (Ok x) (Ok answer) old new = Hears old (answered (held x) answer) new
HearsAnswer Hears layout held (Ok x) (Err (stop.NoLabel asked)) old new = Hears old (unlabelled (layout x) asked) new
HearsAnswer Hears layout held _ _ old new = new ≡ old

-- a listener heard of what these files hold, and of what a command judges of it, which was told: the fault of a text, or the answer
pub record IsHeard
    {L X O : Type 0} (Hears : L → Hearing → L → Type 0) (layout : X → Layout) (held : X → Held) (lacks : X → Option Asked)
    (judges : X → Answer → Type 0) (contents : Contents X) (old new : L) (out : Output O) (end : End) : Type 0 where
  pub loaded : Result X Stop
  pub answer : Result Answer Stop
  pub between : L
  pub gives : IsLoadedAs contents loaded
  pub judged : IsJudged lacks judges loaded answer
  pub told : IsTold answer out end
  pub fault : HearsFault Hears contents loaded old between
  pub answered : HearsAnswer Hears layout held loaded answer between new

-- a listener heard of a command of a system alone
abbrev pub SystemIsHeard :
    {L O : Type 0} → (L → Hearing → L → Type 0) → Taken → (Layout → Option Asked) → (Layout → Answer → Type 0) → Option (List ℕ) → L → L
    → Output O → End → Type 0
SystemIsHeard Hears taken lacks judges bytes =
    IsHeard Hears layout_of system (λ s. lacks (layout_of s)) (λ s. judges (layout_of s)) (given_contents taken bytes)

-- a listener heard of a command of two systems
abbrev pub TwoIsHeard :
    {L O : Type 0} → (L → Hearing → L → Type 0) → Taken → (Layout → Layout → Answer → Type 0) → Option (List ℕ) → Option (List ℕ) → L → L
    → Output O → End → Type 0
TwoIsHeard Hears taken judges old new =
    IsHeard Hears (λ s. layout_of s.new) (λ s. compared s.old s.new) (λ s. None) (λ s. judges (layout_of s.old) (layout_of s.new))
    (two_contents taken old new)

-- a listener heard of a command of a system and a second file of this name, as a function reads that
abbrev pub WithIsHeard :
    {L X O : Type 0} → (L → Hearing → L → Type 0) → (Given → X → Held) → Taken → File → (Layout → List ℕ → Result X Fault)
    → (Layout → Option Asked) → (Layout → X → Answer → Type 0) → Option (List ℕ) → Option (List ℕ) → L → L → Output O → End → Type 0
WithIsHeard {L} {X} {O} Hears held taken name read lacks judges bytes second =
    IsHeard Hears (λ (w : With X). layout_of w.system) (λ (w : With X). held w.system w.second) (λ (w : With X). lacks (layout_of w.system))
    (λ (w : With X). judges (layout_of w.system) w.second) (with_contents taken name read bytes second)

-- a listener heard of a command of a table, a policy and a third file of this name, as a function reads that
abbrev pub ThreeIsHeard :
    {L X O : Type 0} → (L → Hearing → L → Type 0) → (Layout → List Edge → X → Held) → File → (Layout → List ℕ → Result X Fault)
    → (Layout → List Edge → X → Answer → Type 0) → Option (List ℕ) → Option (List ℕ) → Option (List ℕ) → L → L → Output O → End → Type 0
ThreeIsHeard {L} {X} {O} Hears held name read judges t p x =
    IsHeard Hears (λ (s : Three X). s.table) (λ (s : Three X). held s.table s.policy s.third) (λ (s : Three X). None)
    (λ (s : Three X). judges s.table s.policy s.third) (three_contents name read t p x)
