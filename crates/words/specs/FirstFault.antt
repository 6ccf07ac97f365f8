-- The first fault of a text of some format: a header, lines that are steps of a state, the line `end`, and nothing after it. A fault is a
-- line's number, from 1, and what is wrong there (confine's own).
use Rattle.std.specs.{List.AllByRecursion, Prelude.{[], ℕ, ◌++◌, ◌+◌, ◌∷◌, ◌≡◌, ◌≢◌, Err, List, Ok, Option, Some, length, map}}
use Rattle.words.specs.{declared.faults.{Fault.Fault, Wrong.{Wrong, TheVariants.Syntax}}, Fault.fault_at, Reading.{Format, last_line}}
use Rattle.words.specs.{Reading.steps, Text.IsOver}

abbrev pub Line : Type 0
Line = List (List ℕ)

-- the lines of a text, with `None` for a last one that isn't ended
abbrev pub TextLines : Type 0
TextLines = List (Option Line)

abbrev pub ended : List Line → TextLines
ended lines = map (λ line. Some line) lines

abbrev pub HasHeader : Line → TextLines → Type 0
HasHeader header lines = (rest : TextLines) × (lines ≡ Some header ∷ rest)

-- a text begins with its header and these good lines: none is the line `end`, and each is a step of the state before it
pub record IsGoodUpTo {S T : Type 0} (f : Format S T) (lines : TextLines) (body : List Line) (state : S) (rest : TextLines) : Type 0
  where
    pub lines_are : lines ≡ ended (f.header ∷ body) ++ rest
    pub inner : AllByRecursion (λ line. line ≢ last_line) body
    pub stepped : steps f.step f.start body ≡ Ok state

-- a text without a fault: its lines up to `end` are good, the state after them gives a value, and nothing follows
pub record IsText {S T : Type 0} (f : Format S T) (lines : TextLines) (value : T) : Type 0 where
  pub body : List Line
  pub state : S
  pub good : IsGoodUpTo f lines body state (Some last_line ∷ [])
  pub whole : f.whole state ≡ Ok value

-- the first fault of a text, at the line with this number
pub data IsFirstFault {S T : Type 0} (f : Format S T) (lines : TextLines) (number : ℕ) (wrong : Wrong) : Type 0 where
  no_header : ¬ HasHeader f.header lines → number ≡ 1 → wrong ≡ Syntax → IsFirstFault f lines number wrong
  -- the line after the good ones is missing, or isn't ended
  no_line :
      (body : List Line) (state : S) (rest : TextLines) → IsGoodUpTo f lines body state rest → IsOver rest
      → number ≡ length body + 2 → wrong ≡ Syntax → IsFirstFault f lines number wrong
  -- the line after the good ones isn't `end`, and no step of the state
  no_step :
      (body : List Line) (state : S) (line : Line) (rest : TextLines) → IsGoodUpTo f lines body state (Some line ∷ rest)
      → line ≢ last_line → f.step state line ≡ Err wrong → number ≡ length body + 2 → IsFirstFault f lines number wrong
  -- the good lines are followed by `end`, but the state gives the fault of a line
  no_whole :
      (body : List Line) (state : S) (rest : TextLines) → IsGoodUpTo f lines body state (Some last_line ∷ rest)
      → f.whole state ≡ Err (number, wrong) → IsFirstFault f lines number wrong
  -- the state gives a value, but something follows `end`
  no_end :
      (body : List Line) (state : S) (value : T) (next : Option Line) (rest : TextLines)
      → IsGoodUpTo f lines body state (Some last_line ∷ next ∷ rest) → f.whole state ≡ Ok value
      → number ≡ length body + 3 → wrong ≡ Syntax → IsFirstFault f lines number wrong

-- a fault is the first one of a text
abbrev pub TellsFirst : {S T : Type 0} → Format S T → TextLines → Fault → Type 0
TellsFirst f lines fault = (line : ℕ) × (wrong : Wrong) × (fault ≡ fault_at line wrong) × IsFirstFault f lines line wrong
