-- Reading as functions on lists: of the words of a line, and of the lines of a text, up to the first fault (confine's own).
use Rattle.std.specs.Prelude.{[], ℕ, ◌++◌, ◌+◌, ◌∷◌, ◌≡◌, ◌≢◌, Err, List, None, Ok, Option, Result, Some, codes, false, if◌then◌else◌, map}
use Rattle.words.specs.declared.faults.{Fault.Fault, LineError.{LineError, TheVariants.{Memory, Text}}, Wrong.{Wrong, TheVariants.Syntax}}
use Rattle.words.specs.{Fault.{fault_at, no_memory}, Text.{Progress, line_is, text_of, words_of}}

-- two steps of reading; a fault ends reading
unfoldable pub bind : {E X Y : Type 0} → Result X E → (X → Result Y E) → Result Y E
bind (Ok x) next = next x
bind (Err e) next = Err e

infixl 10 ◌>>=◌
abbrev pub ◌>>=◌ : {E X Y : Type 0} → Result X E → (X → Result Y E) → Result Y E
step >>= next = bind step next

-- the next word and the words after it
unfoldable pub word_at : List (List ℕ) → Result (List ℕ × List (List ℕ)) Wrong
word_at [] = Err Syntax
word_at (word ∷ words) = Ok (word, words)

-- the line has no word left
unfoldable pub ended_at : List (List ℕ) → Result (Unit {0}) Wrong
ended_at [] = Ok tt
ended_at (word ∷ words) = Err Syntax

-- a value if there is one, or else a fault of form
unfoldable pub or_syntax : {X : Type 0} → Option X → Result X Wrong
or_syntax (Some x) = Ok x
or_syntax None = Err Syntax

-- the line that ends a text
abbrev pub last_line : List (List ℕ)
last_line = words_of (codes "end")

-- the place after the next line, or the same place if no ended line comes next
unfoldable pub after_line : Progress → Progress
after_line place = after place.lines
  where
    after : List (Option (List (List ℕ))) → Progress
    after [] = place
    after (None ∷ lines) = place
    after (Some line ∷ lines) = record { taken = place.taken + 1; lines = lines }

-- nothing follows the lines that were taken
unfoldable pub end_at : Progress → Result (Unit {0}) Fault
end_at place = end_of place.lines
  where
    end_of : List (Option (List (List ℕ))) → Result (Unit {0}) Fault
    end_of [] = Ok tt
    end_of (line ∷ lines) = Err (fault_at (place.taken + 1) Syntax)

-- the next line is the header
unfoldable pub header_at : List (List ℕ) → Progress → Result Progress Fault
header_at header place = header_of place.lines
  where
    header_of : List (Option (List (List ℕ))) → Result Progress Fault
    header_of [] = Err (fault_at (place.taken + 1) Syntax)
    header_of (None ∷ lines) = Err (fault_at (place.taken + 1) Syntax)
    header_of (Some line ∷ lines) =
        if line_is line header
        then Ok (record { taken = place.taken + 1; lines = lines })
        else Err (fault_at (place.taken + 1) Syntax)

-- the result of one line, with the line's number added to its fault
unfoldable pub at_line : {S T : Type 0} → ℕ → Result S Wrong → (S → Result T Fault) → Result T Fault
at_line line (Ok s) next = next s
at_line line (Err wrong) next = Err (fault_at line wrong)

-- reads the lines up to `end`, each a step of a state, and finishes with the state and the place after `end`
unfoldable pub read_lines : {S T : Type 0} → (S → List (List ℕ) → Result S Wrong) → (S → Progress → Result T Fault) → ℕ → S
    → List (Option (List (List ℕ))) → Result T Fault
read_lines step finish taken s [] = Err (fault_at (taken + 1) Syntax)
read_lines step finish taken s (None ∷ lines) = Err (fault_at (taken + 1) Syntax)
read_lines step finish taken s (Some line ∷ lines) =
    if line_is line last_line
    then finish s (record { taken = taken + 1; lines = lines })
    else at_line (taken + 1) (step s line) (λ next. read_lines step finish (taken + 1) next lines)

unfoldable pub steps : {S : Type 0} → (S → List (List ℕ) → Result S Wrong) → S → List (List (List ℕ)) → Result S Wrong
steps step s [] = Ok s
steps step s (line ∷ lines) = bind (step s line) (λ next. steps step next lines)

-- the lines of a whole text: its header, its body and `end`
abbrev pub whole_lines : List (List ℕ) → List (List (List ℕ)) → List (List (List ℕ))
whole_lines header body = header ∷ (body ++ last_line ∷ [])

-- the text of values, with a line for each
abbrev pub list_text : {X : Type 0} → List (List ℕ) → (X → List (List ℕ)) → List X → List ℕ
list_text header line values = text_of (whole_lines header (map line values))

abbrev pub IsNotLast : List (List ℕ) → Type 0
IsNotLast line = line_is line last_line ≡ false

-- the value of a state after all lines, or the fault of one of them
abbrev pub Whole : Type 0 → Type 0
Whole T = Result T (ℕ × Wrong)

abbrev pub faulted : {T : Type 0} → Whole T → Result T Fault
faulted (Ok t) = Ok t
faulted (Err (line, wrong)) = Err (fault_at line wrong)

-- the state is judged once the line `end` is read; then nothing may follow
unfoldable pub judged : {S T : Type 0} → (S → Whole T) → S → Progress → Result T Fault
judged whole s place = do
  t ← faulted (whole s)
  _ ← end_at place
  Ok t

-- the value is the state itself
abbrev pub as_read : {S : Type 0} → S → Whole S
as_read s = Ok s

-- reads a whole text: its header, its lines, and what they give
unfoldable pub read_text : {S T : Type 0} → List (List ℕ) → (S → List (List ℕ) → Result S Wrong) → (S → Progress → Result T Fault)
    → S → List (Option (List (List ℕ))) → Result T Fault
read_text header step finish s lines =
    bind (header_at header (record { taken = 0; lines = lines })) (λ place. read_lines step finish place.taken s place.lines)

-- a format of texts: the header, the step of each line, the value of the state at the end, and the first state
pub record Format (S T : Type 0) : Type 0 where
  pub header : List (List ℕ)
  pub step : S → List (List ℕ) → Result S Wrong
  pub whole : S → Whole T
  pub start : S

-- a text whose lines are values, read as they are
abbrev pub list_format : {X : Type 0} → List (List ℕ) → (List X → List (List ℕ) → Result (List X) Wrong) → Format (List X) (List X)
list_format header step = record { header = header; step = step; whole = as_read; start = [] }

-- the value of a text of this format, or its first fault
abbrev pub read_format : {S T : Type 0} → Format S T → List (Option (List (List ℕ))) → Result T Fault
read_format f lines = read_text f.header f.step (judged f.whole) f.start lines

-- a result is what reading gives, seen by `view`
abbrev pub Gives : {E X Y : Type 0} → (X → Y) → Result X E → Result Y E → Type 0
Gives view (Ok x) read = read ≡ Ok (view x)
Gives view (Err e) read = read ≡ Err e

-- reading stops for this reason; nothing is said of the text if memory was refused
abbrev pub StopsBy : {Y : Type 0} → LineError → Result Y Wrong → Type 0
StopsBy Memory read = Unit {0}
StopsBy (Text wrong) read = read ≡ Err wrong

-- a result is what reading gives, seen by `view`, unless memory was refused
abbrev pub GivesOrStops : {X Y : Type 0} → (X → Y) → Result X LineError → Result Y Wrong → Type 0
GivesOrStops view (Ok x) read = read ≡ Ok (view x)
GivesOrStops view (Err error) read = StopsBy error read

-- the result for a whole text is what reading gives, unless memory was refused
abbrev pub Reads : {X Y : Type 0} → (X → Y) → Result X Fault → Result Y Fault → Type 0
Reads view (Ok x) read = read ≡ Ok (view x)
Reads view (Err fault) read = fault ≢ no_memory → read ≡ Err fault
