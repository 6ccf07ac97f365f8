-- That a text is read if it has no fault, and is refused for its first fault otherwise.
use Rattle.std.{specs.List.AllByRecursion, proofs.Common.{[], ℕ, ◌++◌, ◌+◌, ◌==◌, ◌∙◌, ◌∷◌, ◌≡◌, ◌≢◌, ◌⊎◌, Bool, Err, IfErr, List, None}}
use Rattle.std.proofs.{Common.{Ok, Result, Some, ap, arith, cond, false, inl, inr, length, refl, subst, sym, true}, lemmas.Bool.cond-true}
use Rattle.words.specs.declared.faults.{Fault.Fault, Wrong.{Wrong, TheVariants.{Double, Limit, Misplaced, Syntax, Tree, UnknownName}}}
use Rattle.words.specs.{declared.faults.Wrong.TheVariants.WrongKind, Fault.{fault_at, no_memory, number_of}, FirstFault.HasHeader}
use Rattle.words.specs.FirstFault.{IsFirstFault, IsGoodUpTo, IsText, Line, TellsFirst, TextLines, ended, no_end, no_header, no_line}
use Rattle.words.specs.{FirstFault.{no_step, no_whole}, Reading.{Format, Reads, Whole, at_line, bind, end_at, faulted, header_at, judged}}
use Rattle.words.specs.{Reading.{last_line, read_format, read_lines, read_text, steps}, Text.{IsOver, Progress, line_is}}
use Rattle.words.proofs.{ReadingLaws.{at_step, no_more}, Splits.{line_same, same_line}, WordLaws.bind_ok}

-- faults of different lines differ, and so do different faults of one line

wrong_of : ℕ → Wrong
wrong_of n =
    cond (n == 50) Syntax (cond (n == 51) UnknownName
    (cond (n == 52) Double (cond (n == 53) Misplaced (cond (n == 54) Limit (cond (n == 55) WrongKind Tree)))))

back : (wrong : Wrong) → wrong_of (number_of wrong) ≡ wrong
unfolding wrong_of
back Syntax = refl
back UnknownName = refl
back Double = refl
back Misplaced = refl
back Limit = refl
back WrongKind = refl
back Tree = refl

pub same_fault : (line other : ℕ) (wrong that : Wrong) → fault_at line wrong ≡ fault_at other that
    → (line ≡ other) × (wrong ≡ that)
unfolding fault_at
same_fault line other wrong that e =
    (ap (λ (f : Fault). f.line) e, sym (back wrong) ∙ ap (λ (f : Fault). wrong_of f.number) e ∙ back that)

not_last : (line : Line) → line ≢ last_line → line_is line last_line ≡ false
not_last line other = by_test (line_is line last_line) refl
  where
    by_test : (last : Bool) → line_is line last_line ≡ last → last ≡ false
    by_test true same = absurd (other (line_same line last_line same))
    by_test false same = refl

-- good lines are read, and reading goes on after them
pub goes_through : {S T : Type 0} (step : S → Line → Result S Wrong) (finish : S → Progress → Result T Fault) (taken : ℕ)
    (s state : S) (body : List Line) (rest : TextLines)
    → AllByRecursion (λ line. line ≢ last_line) body → steps step s body ≡ Ok state
    → read_lines step finish taken s (ended body ++ rest) ≡ read_lines step finish (taken + length body) state rest
unfolding steps at_line
goes_through step finish taken s state [] rest inner stepped =
    let same : s ≡ state = cc in
    let count : taken ≡ taken + 0 = omega arith in
    ap (λ p. read_lines step finish taken p rest) same ∙ ap (λ n. read_lines step finish n state rest) count
goes_through step finish taken s state (line ∷ body) rest inner stepped =
    let first = bind_ok (step s line) (λ next. steps step next body) state stepped in
    let count : taken + 1 + length body ≡ taken + length (line ∷ body) = omega arith in
    at_step step finish taken s line (ended body ++ rest) (not_last line inner.0)
    ∙ ap (λ r. at_line (taken + 1) r (λ next. read_lines step finish (taken + 1) next (ended body ++ rest))) first.1
    ∙ goes_through step finish (taken + 1) first.0 state body rest inner.1 first.2
    ∙ ap (λ n. read_lines step finish n state rest) count

-- the header is read
header_again : (header : Line) (lines : TextLines)
    → header_at header (record { taken = 0; lines = Some header ∷ lines }) ≡ Ok (record { taken = 1; lines = lines })
unfolding header_at
header_again header lines = cond-true _ _ _ (same_line header)

pub good_text : {S T : Type 0} (f : Format S T) (finish : S → Progress → Result T Fault) (state : S) (lines : TextLines) (body : List Line) (rest : TextLines)
    → IsGoodUpTo f lines body state rest
    → read_text f.header f.step finish f.start lines ≡ read_lines f.step finish (length body + 1) state rest
unfolding read_text bind
good_text f finish state lines body rest good =
    let count : 1 + length body ≡ length body + 1 = omega arith in
    ap (λ ls. read_text f.header f.step finish f.start ls) good.lines_are
    ∙ ap (λ r. bind r (λ place. read_lines f.step finish place.taken f.start place.lines)) (header_again f.header (ended body ++ rest))
    ∙ goes_through f.step finish 1 f.start state body rest good.inner good.stepped
    ∙ ap (λ n. read_lines f.step finish n state rest) count

-- each of the ways to have a first fault is reported as such

without_header : (header : Line) (lines : TextLines) → ¬ HasHeader header lines
    → header_at header (record { taken = 0; lines = lines }) ≡ Err (fault_at 1 Syntax)
unfolding header_at
without_header header [] other = refl
without_header header (None ∷ lines) other = refl
without_header header (Some line ∷ lines) other = by_test (line_is line header) refl
  where
    by_test : (same : Bool) → line_is line header ≡ same
        → ◌≡◌ {A = Result Progress Fault} (cond same (Ok (record {
          taken = 1;
          lines = lines;
        })) (Err (fault_at 1 Syntax))) (Err (fault_at 1 Syntax))
    by_test true same = absurd (other (lines, ap (λ l. Some l ∷ lines) (line_same line header same)))
    by_test false same = refl

stops_at : {S T : Type 0} (step : S → Line → Result S Wrong) (finish : S → Progress → Result T Fault) (taken : ℕ) (s : S)
    (line : Line) (lines : TextLines) (wrong : Wrong)
    → line ≢ last_line → step s line ≡ Err wrong
    → read_lines step finish taken s (Some line ∷ lines) ≡ Err (fault_at (taken + 1) wrong)
unfolding at_line
stops_at step finish taken s line lines wrong other failed =
    at_step step finish taken s line lines (not_last line other)
    ∙ ap (λ r. at_line (taken + 1) r (λ next. read_lines step finish (taken + 1) next lines)) failed

-- the result at `end` is what the state and the place after it give
pub reaches_end : {S T : Type 0} (step : S → Line → Result S Wrong) (finish : S → Progress → Result T Fault) (taken : ℕ) (s : S)
    (lines : TextLines)
    → read_lines step finish taken s (Some last_line ∷ lines) ≡ finish s (record { taken = taken + 1; lines = lines })
unfolding read_lines
reaches_end step finish taken s lines =
    ap (λ t. cond t (finish s (record {
      taken = taken + 1;
      lines = lines;
    })) (at_line (taken + 1) (step s last_line) (λ next. read_lines step finish (taken + 1) next lines))) (same_line last_line)

pub refuses : {S T : Type 0} (f : Format S T) (lines : TextLines) (number : ℕ)
    (wrong : Wrong)
    → IsFirstFault f lines number wrong → read_format f lines ≡ Err (fault_at number wrong)
unfolding read_text bind judged end_at
refuses f lines number wrong (no_header other first form) =
    ap (λ r. bind r (λ place. read_lines f.step (judged f.whole) place.taken f.start place.lines)) (without_header f.header lines other)
    ∙ ap (λ n. Err (fault_at n Syntax)) (sym first)
    ∙ ap (λ w. Err (fault_at number w)) (sym form)
refuses f lines number wrong (no_line body state rest good over counted form) =
    let count : length body + 1 + 1 ≡ number = omega arith in
    no_more f.step (judged f.whole) (record {
      taken = length body + 1;
      lines = rest;
    }) state _ (sym (good_text f (judged f.whole) state lines body rest good)) over
    ∙ ap (λ n. Err (fault_at n Syntax)) count
    ∙ ap (λ w. Err (fault_at number w)) (sym form)
refuses f lines number wrong (no_step body state line rest good other failed counted) =
    let count : length body + 1 + 1 ≡ number = omega arith in
    good_text f (judged f.whole) state lines body (Some line ∷ rest) good
    ∙ stops_at f.step (judged f.whole) (length body + 1) state line rest wrong other failed
    ∙ ap (λ n. Err (fault_at n wrong)) count
refuses f lines number wrong (no_whole body state rest good failed) =
    good_text f (judged f.whole) state lines body (Some last_line ∷ rest) good
    ∙ reaches_end f.step (judged f.whole) (length body + 1) state rest
    ∙ ap (λ w. bind (faulted w) (λ t. bind (end_at (record { taken = length body + 1 + 1; lines = rest })) (λ _. Ok t))) failed
refuses f lines number wrong (no_end body state value next rest good came counted form) =
    let count : length body + 1 + 1 + 1 ≡ number = omega arith in
    good_text f (judged f.whole) state lines body (Some last_line ∷ next ∷ rest) good
    ∙ reaches_end f.step (judged f.whole) (length body + 1) state (next ∷ rest)
    ∙ ap (λ w. bind (faulted w) (λ t. bind (end_at (record {
      taken = length body + 1 + 1;
      lines = next ∷ rest;
    })) (λ _. Ok t))) came
    ∙ ap (λ n. Err (fault_at n Syntax)) count
    ∙ ap (λ w. Err (fault_at number w)) (sym form)

pub reads : {S T : Type 0} (f : Format S T) (lines : TextLines) (value : T) → IsText f lines value → read_format f lines ≡ Ok value
unfolding judged bind end_at
reads f lines value text =
    good_text f (judged f.whole) text.state lines text.body (Some last_line ∷ []) text.good
    ∙ reaches_end f.step (judged f.whole) (length text.body + 1) text.state []
    ∙ ap (λ w. bind (faulted w) (λ t. bind (end_at (record {
      taken = length text.body + 1 + 1;
      lines = [];
    })) (λ _. Ok t))) text.whole

-- each text has no fault, or a first one

-- the line after good ones: none that is ended, `end`, or one that is no step
data Comes {S : Type 0} (step : S → Line → Result S Wrong) (state : S) (rest : TextLines) : Type 0 where
  nothing : IsOver rest → Comes step state rest
  last : (later : TextLines) → rest ≡ Some last_line ∷ later → Comes step state rest
  refused : (line : Line) (later : TextLines) (wrong : Wrong) → rest ≡ Some line ∷ later → line ≢ last_line
      → step state line ≡ Err wrong → Comes step state rest

record Scans {S : Type 0} (step : S → Line → Result S Wrong) (s : S) (lines : TextLines) : Type 0 where
  body : List Line
  state : S
  rest : TextLines
  lines_are : lines ≡ ended body ++ rest
  inner : AllByRecursion (λ line. line ≢ last_line) body
  stepped : steps step s body ≡ Ok state
  comes : Comes step state rest

ends_here : {S : Type 0} (step : S → Line → Result S Wrong) (s : S) (lines : TextLines) → Comes step s lines → Scans step s lines
unfolding steps
ends_here step s lines comes =
    record { body = []; state = s; rest = lines; lines_are = refl; inner = tt; stepped = refl; comes = comes }

scans : {S : Type 0} (step : S → Line → Result S Wrong) (s : S) (lines : TextLines) → Scans step s lines
unfolding steps bind
scans step s [] = ends_here step s [] (nothing tt)
scans step s (None ∷ lines) = ends_here step s (None ∷ lines) (nothing tt)
scans {S = S} step s (Some line ∷ lines) = by_test (line_is line last_line) refl (λ next. scans step next lines)
  where
    by_step : (r : Result S Wrong) → step s line ≡ r → line ≢ last_line → ((next : S) → Scans step next lines)
        → Scans step s (Some line ∷ lines)
    by_step (Err wrong) failed other later = ends_here step s (Some line ∷ lines) (refused line lines wrong refl other failed)
    by_step (Ok next) stepped other later =
        let more = later next in
        record {
          body = line ∷ more.body;
          state = more.state;
          rest = more.rest;
          lines_are = ap (λ ls. Some line ∷ ls) more.lines_are;
          inner = (other, more.inner);
          stepped = ap (λ r. bind r (λ t. steps step t more.body)) stepped ∙ more.stepped;
          comes = more.comes;
        }

    by_test : (same : Bool) → line_is line last_line ≡ same → ((next : S) → Scans step next lines)
        → Scans step s (Some line ∷ lines)
    by_test true same later =
        ends_here step s (Some line ∷ lines) (last lines (ap (λ l. Some l ∷ lines) (line_same line last_line same)))
    by_test false same later =
        by_step (step s line) refl (λ is. absurd (cc (sym same ∙ ap (λ l. line_is l last_line) is ∙ same_line last_line))) later

begins_or_not : (header : Line) (lines : TextLines) → HasHeader header lines ⊎ (¬ HasHeader header lines)
begins_or_not header [] = inr (λ begins. cc (begins.1))
begins_or_not header (None ∷ lines) = inr (λ begins. cc (begins.1))
begins_or_not header (Some line ∷ lines) = by_test (line_is line header) refl
  where
    by_test : (same : Bool) → line_is line header ≡ same
        → HasHeader header (Some line ∷ lines) ⊎ (¬ HasHeader header (Some line ∷ lines))
    by_test true same = inl (lines, ap (λ l. Some l ∷ lines) (line_same line header same))
    by_test false same = inr (λ begins.
        let is : line ≡ header = cc (begins.1) in
        absurd (cc (sym same ∙ ap (λ l. line_is l header) is ∙ same_line header)))

-- a text is well read, or has a first fault
abbrev pub Ends : {S T : Type 0} → Format S T → TextLines → Type 0
Ends {T = T} f lines =
    ((value : T) × IsText f lines value) ⊎ ((number : ℕ) × (wrong : Wrong) × IsFirstFault f lines number wrong)

after_end : {S T : Type 0} (f : Format S T) (state : S) (lines : TextLines) (body : List Line) (later : TextLines)
    → IsGoodUpTo f lines body state (Some last_line ∷ later) → Ends f lines
after_end {T = T} f state lines body later good = by_whole (f.whole state) refl later good
  where
    by_whole : (whole : Whole T) → f.whole state ≡ whole → (later : TextLines)
        → IsGoodUpTo f lines body state (Some last_line ∷ later) → Ends f lines
    by_whole (Err (number, wrong)) failed later good = inr (number, wrong, no_whole body state later good failed)
    by_whole (Ok value) came [] good = inl (value, record { body = body; state = state; good = good; whole = came })
    by_whole (Ok value) came (next ∷ rest) good =
        inr (length body + 3, Syntax, no_end body state value next rest good came refl refl)

after_good : {S T : Type 0} (f : Format S T) (state : S) (lines : TextLines)
    (body : List Line) (rest : TextLines)
    → IsGoodUpTo f lines body state rest → Comes f.step state rest → Ends f lines
after_good f state lines body rest good (nothing over) =
    inr (length body + 2, Syntax, no_line body state rest good over refl refl)
after_good f state lines body rest good (last later is) =
    after_end f state lines body later (subst (λ r. IsGoodUpTo f lines body state r) is good)
after_good f state lines body rest good (refused line later wrong is other failed) =
    inr (
      length body + 2,
      wrong,
      no_step body state line later
          (subst (λ r. IsGoodUpTo f lines body state r) is good) other failed refl,
    )

pub read_or_refused : {S T : Type 0} (f : Format S T) (lines : TextLines)
    → Ends f lines
read_or_refused f lines = by_header (begins_or_not f.header lines)
  where
    by_header : HasHeader f.header lines ⊎ (¬ HasHeader f.header lines) → Ends f lines
    by_header (inr other) = inr (1, Syntax, no_header other refl refl)
    by_header (inl begins) =
        let found = scans f.step f.start begins.0 in
        after_good f found.state lines found.body found.rest
        (record {
          lines_are = begins.1 ∙ ap (λ ls. Some f.header ∷ ls) found.lines_are;
          inner = found.inner;
          stepped = found.stepped;
        }) found.comes

-- the result of reading tells whether there is a first fault, and which

pub has_first_fault : {S T : Type 0} (f : Format S T) (lines : TextLines) (number : ℕ)
    (wrong : Wrong)
    → read_format f lines ≡ Err (fault_at number wrong) → IsFirstFault f lines number wrong
has_first_fault f lines number wrong failed = by_answer (read_or_refused f lines)
  where
    by_answer : Ends f lines → IsFirstFault f lines number wrong
    by_answer (inl text) = absurd (cc (sym failed ∙ reads f lines text.0 text.1))
    by_answer (inr first) =
        let told : fault_at first.0 first.1 ≡ fault_at number wrong =
        cc (sym (refuses f lines first.0 first.1 first.2) ∙ failed) in
        let same = same_fault first.0 number first.1 wrong told in
        subst (λ n. IsFirstFault f lines n wrong) same.0
        (subst (λ w. IsFirstFault f lines first.0 w) same.1 first.2)

pub is_text : {S T : Type 0} (f : Format S T) (lines : TextLines) (state : T)
    → read_format f lines ≡ Ok state → IsText f lines state
is_text f lines state read = by_answer (read_or_refused f lines)
  where
    by_answer : Ends f lines → IsText f lines state
    by_answer (inl text) =
        let same : text.0 ≡ state = cc (sym (reads f lines text.0 text.1) ∙ read) in
        subst (λ t. IsText f lines t) same text.1
    by_answer (inr first) = absurd (cc (sym (refuses f lines first.0 first.1 first.2) ∙ read))

-- a text has at most one first fault, and none if it is read

pub one_first_fault : {S T : Type 0} (f : Format S T) (lines : TextLines)
    (number other : ℕ) (wrong that : Wrong)
    → IsFirstFault f lines number wrong → IsFirstFault f lines other that
    → (number ≡ other) × (wrong ≡ that)
one_first_fault f lines number other wrong that first second =
    same_fault number other wrong that
    (cc (sym (refuses f lines number wrong first) ∙ refuses f lines other that second))

pub not_both : {S T : Type 0} (f : Format S T) (lines : TextLines) (state : T)
    (number : ℕ) (wrong : Wrong)
    → IsText f lines state → IsFirstFault f lines number wrong → ⊥
not_both f lines state number wrong text first =
    cc (sym (reads f lines state text) ∙ refuses f lines number wrong first)

-- the fault of a result is the first one, and a first fault is the fault of the result

tells : {S T : Type 0} (f : Format S T) (lines : TextLines) (fault : Fault)
    → read_format f lines ≡ Err fault → TellsFirst f lines fault
tells f lines fault failed = by_answer (read_or_refused f lines)
  where
    by_answer : Ends f lines → TellsFirst f lines fault
    by_answer (inl text) = absurd (cc (sym failed ∙ reads f lines text.0 text.1))
    by_answer (inr first) =
        (first.0, first.1, cc (sym failed ∙ refuses f lines first.0 first.1 first.2), first.2)

-- the fault of a text that isn't read is its first one, unless memory was refused
pub faults : {S T X : Type 0} (view : X → T) (f : Format S T) (lines : TextLines)
    (result : Result X Fault)
    → Reads view result (read_format f lines)
    → IfErr result (λ fault. fault ≢ no_memory → TellsFirst f lines fault)
faults view f lines (Ok x) exact = tt
faults view f lines (Err fault) exact = λ lacked. tells f lines fault (exact lacked)

-- a text with a first fault is refused for that one
pub refused_for : {S T X : Type 0} (view : X → T) (f : Format S T) (lines : TextLines)
    (result : Result X Fault)
    → Reads view result (read_format f lines) → (line : ℕ) (wrong : Wrong)
    → IsFirstFault f lines line wrong → Reads view result (Err (fault_at line wrong))
refused_for view f lines result exact line wrong first =
    subst (λ read. Reads view result read) (refuses f lines line wrong first) exact
