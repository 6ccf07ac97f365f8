-- Loops over the lines of a text: that they agree with `read_lines`, by one law for each place where such a loop goes on or ends.
use Rattle.std.proofs.Common.{[], ℕ, ◌+◌, ◌∙◌, ◌∷◌, ◌≡◌, ◌≢◌, Err, List, None, Ok, Option, Result, Some, ap, cond, false, refl, sym, true}
use Rattle.words.specs.declared.faults.{Fault.Fault, LineError.{LineError, TheVariants.{Memory, Text}}, Wrong.{Wrong, TheVariants.Syntax}}
use Rattle.words.specs.{Fault.{fault_at, fault_of, no_memory}, Reading.{StopsBy, Whole, as_read, at_line, bind, end_at, faulted, header_at}}
use Rattle.words.specs.{Reading.{judged, last_line, read_lines, read_text}, Text.{IsOver, Progress, line_is}}

-- the header was taken: the loop begins
pub begins : {S T : Type 0} (header : List (List ℕ)) (step : S → List (List ℕ) → Result S Wrong)
    (finish : S → Progress → Result T Fault) (s : S) (lines : List (Option (List (List ℕ)))) (place : Progress)
    → header_at header (record { taken = 0; lines = lines }) ≡ Ok place
    → read_lines step finish place.taken s place.lines ≡ read_text header step finish s lines
unfolding read_text bind
begins header step finish s lines place taken =
    sym (ap (λ r. bind r (λ at. read_lines step finish at.taken s at.lines)) taken)

-- the header wasn't taken: its fault is that of the text
pub no_beginning : {S T : Type 0} (header : List (List ℕ)) (step : S → List (List ℕ) → Result S Wrong)
    (finish : S → Progress → Result T Fault) (s : S) (lines : List (Option (List (List ℕ)))) (fault : Fault)
    → header_at header (record { taken = 0; lines = lines }) ≡ Err fault → read_text header step finish s lines ≡ Err fault
unfolding read_text bind
no_beginning header step finish s lines fault failed =
    ap (λ r. bind r (λ at. read_lines step finish at.taken s at.lines)) failed

-- a line other than the last is a step
pub at_step : {S T : Type 0} (step : S → List (List ℕ) → Result S Wrong) (finish : S → Progress → Result T Fault) (taken : ℕ) (s : S)
    (line : List (List ℕ)) (lines : List (Option (List (List ℕ))))
    → line_is line last_line ≡ false
    → read_lines step finish taken s (Some line ∷ lines)
    ≡ at_line (taken + 1) (step s line) (λ next. read_lines step finish (taken + 1) next lines)
unfolding read_lines
at_step step finish taken s line lines other =
    ap (λ t. cond t (finish s (record {
      taken = taken + 1;
      lines = lines;
    })) (at_line (taken + 1) (step s line) (λ next. read_lines step finish (taken + 1) next lines))) other

-- the step gave a state: the loop goes on with it
pub goes_on : {S T : Type 0} (step : S → List (List ℕ) → Result S Wrong) (finish : S → Progress → Result T Fault) (old new : Progress)
    (s next : S) (line : List (List ℕ)) (read : Result T Fault)
    → read_lines step finish old.taken s old.lines ≡ read → old.lines ≡ Some line ∷ new.lines → new.taken ≡ old.taken + 1
    → line_is line last_line ≡ false → step s line ≡ Ok next → read_lines step finish new.taken next new.lines ≡ read
unfolding at_line
goes_on step finish old new s next line read so_far taken counted other stepped =
    ap (λ n. read_lines step finish n next new.lines) counted
    ∙ sym (ap (λ r. at_line (old.taken + 1) r (λ t. read_lines step finish (old.taken + 1) t new.lines)) stepped)
    ∙ sym (at_step step finish old.taken s line new.lines other)
    ∙ sym (ap (λ lines. read_lines step finish old.taken s lines) taken)
    ∙ so_far

-- the step found a fault: it is that of the text, at the line that was taken
pub stops : {S T : Type 0} (step : S → List (List ℕ) → Result S Wrong) (finish : S → Progress → Result T Fault) (old new : Progress)
    (s : S) (line : List (List ℕ)) (wrong : Wrong) (fault : Fault) (read : Result T Fault)
    → read_lines step finish old.taken s old.lines ≡ read → old.lines ≡ Some line ∷ new.lines → new.taken ≡ old.taken + 1
    → line_is line last_line ≡ false → step s line ≡ Err wrong → fault ≡ fault_at new.taken wrong → read ≡ Err fault
unfolding at_line
stops step finish old new s line wrong fault read so_far taken counted other stepped told =
    sym so_far
    ∙ ap (λ lines. read_lines step finish old.taken s lines) taken
    ∙ at_step step finish old.taken s line new.lines other
    ∙ ap (λ r. at_line (old.taken + 1) r (λ t. read_lines step finish (old.taken + 1) t new.lines)) stepped
    ∙ ap (λ n. Err (fault_at n wrong)) (sym counted)
    ∙ sym (ap (λ f. Err f) told)

-- the step stopped: its fault is that of the text, unless memory was refused
pub stops_by : {S T : Type 0} (step : S → List (List ℕ) → Result S Wrong) (finish : S → Progress → Result T Fault) (old new : Progress)
    (s : S) (line : List (List ℕ)) (error : LineError) (fault : Fault) (read : Result T Fault)
    → read_lines step finish old.taken s old.lines ≡ read → old.lines ≡ Some line ∷ new.lines → new.taken ≡ old.taken + 1
    → line_is line last_line ≡ false → StopsBy error (step s line) → fault ≡ fault_of new.taken error → fault ≢ no_memory
    → read ≡ Err fault
unfolding fault_of
stops_by step finish old new s line Memory fault read so_far taken counted other stepped told lacked = absurd (lacked told)
stops_by step finish old new s line (Text wrong) fault read so_far taken counted other stepped told lacked =
    stops step finish old new s line wrong fault read so_far taken counted other stepped told

-- the last line was taken: what is read is what the state and the place give
ends : {S T : Type 0} (step : S → List (List ℕ) → Result S Wrong) (finish : S → Progress → Result T Fault) (old new : Progress) (s : S)
    (line : List (List ℕ)) (read : Result T Fault)
    → read_lines step finish old.taken s old.lines ≡ read → old.lines ≡ Some line ∷ new.lines → new.taken ≡ old.taken + 1
    → line_is line last_line ≡ true → read ≡ finish s new
unfolding read_lines
ends step finish old new s line read so_far taken counted last =
    sym so_far
    ∙ ap (λ lines. read_lines step finish old.taken s lines) taken
    ∙ ap (λ t. cond t (finish s (record { taken = old.taken + 1; lines = new.lines }))
    (at_line (old.taken + 1) (step s line) (λ next. read_lines step finish (old.taken + 1) next new.lines))) last
    ∙ ap (λ n. finish s (record { taken = n; lines = new.lines })) (sym counted)

-- the state and the place give a value, which is the result
pub finishes : {S T : Type 0} (step : S → List (List ℕ) → Result S Wrong) (finish : S → Progress → Result T Fault) (old new : Progress)
    (s : S) (line : List (List ℕ)) (t : T) (read : Result T Fault)
    → read_lines step finish old.taken s old.lines ≡ read → old.lines ≡ Some line ∷ new.lines → new.taken ≡ old.taken + 1
    → line_is line last_line ≡ true → finish s new ≡ Ok t → read ≡ Ok t
finishes step finish old new s line t read so_far taken counted last finished =
    ends step finish old new s line read so_far taken counted last ∙ finished

-- the state and the place give a fault, which is that of the text
pub finishes_badly : {S T : Type 0} (step : S → List (List ℕ) → Result S Wrong) (finish : S → Progress → Result T Fault)
    (old new : Progress) (s : S) (line : List (List ℕ)) (fault : Fault) (read : Result T Fault)
    → read_lines step finish old.taken s old.lines ≡ read → old.lines ≡ Some line ∷ new.lines → new.taken ≡ old.taken + 1
    → line_is line last_line ≡ true → finish s new ≡ Err fault → read ≡ Err fault
finishes_badly step finish old new s line fault read so_far taken counted last failed =
    ends step finish old new s line read so_far taken counted last ∙ failed

-- no ended line comes next: the fault is the missing line's
pub no_more : {S T : Type 0} (step : S → List (List ℕ) → Result S Wrong) (finish : S → Progress → Result T Fault) (place : Progress)
    (s : S) (read : Result T Fault)
    → read_lines step finish place.taken s place.lines ≡ read → IsOver place.lines
    → read ≡ Err (fault_at (place.taken + 1) Syntax)
unfolding read_lines
no_more step finish place s read so_far over = sym so_far ∙ by_lines place.lines over
  where
    by_lines : (lines : List (Option (List (List ℕ)))) → IsOver lines
        → read_lines step finish place.taken s lines ≡ Err (fault_at (place.taken + 1) Syntax)
    by_lines [] over = refl
    by_lines (None ∷ lines) over = refl
    by_lines (Some line ∷ lines) over = absurd over

-- the state is judged as a value and nothing follows the last line: the value is the result
pub ends_judged : {S T : Type 0} (step : S → List (List ℕ) → Result S Wrong) (whole : S → Whole T) (old new : Progress) (s : S) (t : T)
    (line : List (List ℕ)) (read : Result T Fault)
    → read_lines step (judged whole) old.taken s old.lines ≡ read → old.lines ≡ Some line ∷ new.lines → new.taken ≡ old.taken + 1
    → line_is line last_line ≡ true → whole s ≡ Ok t → end_at new ≡ Ok tt → read ≡ Ok t
unfolding judged bind
ends_judged step whole old new s t line read so_far taken counted last came nothing =
    finishes step (judged whole) old new s line t read so_far taken counted last
    (ap (λ w. bind (faulted w) (λ t. bind (end_at new) (λ _. Ok t))) came ∙ ap (λ r. bind r (λ _. Ok t)) nothing)

-- the state is judged faulty: the fault is that of the text, whatever follows
pub ends_misjudged : {S T : Type 0} (step : S → List (List ℕ) → Result S Wrong) (whole : S → Whole T) (old new : Progress) (s : S)
    (number : ℕ) (wrong : Wrong) (line : List (List ℕ)) (fault : Fault) (read : Result T Fault)
    → read_lines step (judged whole) old.taken s old.lines ≡ read → old.lines ≡ Some line ∷ new.lines → new.taken ≡ old.taken + 1
    → line_is line last_line ≡ true → whole s ≡ Err (number, wrong) → fault ≡ fault_at number wrong → read ≡ Err fault
unfolding judged bind
ends_misjudged step whole old new s number wrong line fault read so_far taken counted last came told =
    finishes_badly step (judged whole) old new s line fault read so_far taken counted last
    (ap (λ w. bind (faulted w) (λ t. bind (end_at new) (λ _. Ok t))) came ∙ ap (λ f. Err f) (sym told))

-- the state is judged as a value but something follows: the fault is that of the text
pub ends_followed : {S T : Type 0} (step : S → List (List ℕ) → Result S Wrong) (whole : S → Whole T) (old new : Progress) (s : S) (t : T)
    (line : List (List ℕ)) (fault : Fault) (read : Result T Fault)
    → read_lines step (judged whole) old.taken s old.lines ≡ read → old.lines ≡ Some line ∷ new.lines → new.taken ≡ old.taken + 1
    → line_is line last_line ≡ true → whole s ≡ Ok t → end_at new ≡ Err fault → read ≡ Err fault
unfolding judged bind
ends_followed step whole old new s t line fault read so_far taken counted last came something =
    finishes_badly step (judged whole) old new s line fault read so_far taken counted last
    (ap (λ w. bind (faulted w) (λ t. bind (end_at new) (λ _. Ok t))) came ∙ ap (λ r. bind r (λ _. Ok t)) something)

-- the two ends of a text whose state is its value

pub ends_well : {S : Type 0} (step : S → List (List ℕ) → Result S Wrong) (old new : Progress) (s : S) (line : List (List ℕ))
    (read : Result S Fault)
    → read_lines step (judged as_read) old.taken s old.lines ≡ read → old.lines ≡ Some line ∷ new.lines → new.taken ≡ old.taken + 1
    → line_is line last_line ≡ true → end_at new ≡ Ok tt → read ≡ Ok s
ends_well step old new s line read so_far taken counted last nothing =
    ends_judged step as_read old new s s line read so_far taken counted last refl nothing

pub ends_badly : {S : Type 0} (step : S → List (List ℕ) → Result S Wrong) (old new : Progress) (s : S) (line : List (List ℕ))
    (fault : Fault) (read : Result S Fault)
    → read_lines step (judged as_read) old.taken s old.lines ≡ read → old.lines ≡ Some line ∷ new.lines → new.taken ≡ old.taken + 1
    → line_is line last_line ≡ true → end_at new ≡ Err fault → read ≡ Err fault
ends_badly step old new s line fault read so_far taken counted last something =
    ends_followed step as_read old new s s line fault read so_far taken counted last refl something

-- the laws for a loop over lines
pub ruleset loop_laws = (begins, no_beginning, goes_on, stops, stops_by, no_more, ends_well, ends_badly)
