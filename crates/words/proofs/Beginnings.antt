-- That a text that is cut before its end has its first fault at the line that was cut.
use Rattle.std.{specs.List.{AllByRecursion, count_by, join_with_byte, onto_first, slice_split}, proofs.Common.{[], ℕ, ◌++◌, ◌+◌, ◌<◌, ◌==◌}}
use Rattle.std.proofs.Common.{◌∙◌, ◌∷◌, ◌≡◌, ◌≢◌, Bool, List, Ok, Result, Some, ap, arith, cond, false, length, map, refl, subst, sym, true}
use Rattle.std.proofs.lemmas.List.{length-append, length-map, length_push, map-append, Splits.join_with_byte-slice_split}
use Rattle.std.proofs.lemmas.List.Splits.{length-slice_split}
use Rattle.words.specs.{declared.faults.Wrong.{Wrong, TheVariants.Syntax}, FirstFault.{IsFirstFault, IsGoodUpTo, IsText, Line, TextLines}}
use Rattle.words.specs.{FirstFault.{ended, no_header, no_line}, Reading.{Format, bind, last_line, steps}, Text.{IsOver, lines_of}}
use Rattle.words.{specs.Text.{lines_of_parts, words_of}, proofs.{Splits.parts_some, WordLaws.bind_ok}}

-- the parts of a beginning, of the rest and of the whole: all but the beginning's last are parts of the whole, and the last begins one
record Cuts (begun parts whole : List (List ℕ)) : Type 0 where
  done : List (List ℕ)
  last : List ℕ
  first : List ℕ
  later : List (List ℕ)
  of_beginning : begun ≡ done ++ last ∷ []
  of_rest : parts ≡ first ∷ later
  of_whole : whole ≡ done ++ (last ++ first) ∷ later

-- a byte put before the beginning is put before its first part
onto : (b : ℕ) {begun parts whole : List (List ℕ)} → Cuts begun parts whole → Cuts (onto_first b begun) parts (onto_first b whole)
onto b {begun} {parts} {whole} c = by_done c.done c.of_beginning c.of_whole
  where
    by_done : (done : List (List ℕ)) → begun ≡ done ++ c.last ∷ [] → whole ≡ done ++ (c.last ++ c.first) ∷ c.later
        → Cuts (onto_first b begun) parts (onto_first b whole)
    by_done [] beginning all = record {
      done = [];
      last = b ∷ c.last;
      first = c.first;
      later = c.later;
      of_beginning = ap (λ ps. onto_first b ps) beginning;
      of_rest = c.of_rest;
      of_whole = ap (λ ps. onto_first b ps) all;
    }
    by_done (part ∷ done) beginning all = record {
      done = (b ∷ part) ∷ done;
      last = c.last;
      first = c.first;
      later = c.later;
      of_beginning = ap (λ ps. onto_first b ps) beginning;
      of_rest = c.of_rest;
      of_whole = ap (λ ps. onto_first b ps) all;
    }

cuts : (p : ℕ → Bool) (beginning rest : List ℕ)
    → Cuts (slice_split p beginning) (slice_split p rest) (slice_split p (beginning ++ rest))
cuts p [] rest =
    let h = parts_some p rest in
    record { done = []; last = []; first = h.0; later = h.1; of_beginning = refl; of_rest = h.2; of_whole = h.2 }
cuts p (b ∷ beginning) rest = by_test (p b) (cuts p beginning rest)
  where
    by_test : {begun parts whole : List (List ℕ)} (passes : Bool) → Cuts begun parts whole
        → Cuts (cond passes ([] ∷ begun) (onto_first b begun)) parts (cond passes ([] ∷ whole) (onto_first b whole))
    by_test true c = record {
      done = [] ∷ c.done;
      last = c.last;
      first = c.first;
      later = c.later;
      of_beginning = ap (λ ps. [] ∷ ps) c.of_beginning;
      of_rest = c.of_rest;
      of_whole = ap (λ ps. [] ∷ ps) c.of_whole;
    }
    by_test false c = onto b c

-- parts that are ended are lines, and reading goes on after them
ended_parts : (done : List (List ℕ)) (next : List ℕ) (parts : List (List ℕ))
    → lines_of_parts (done ++ next ∷ parts) ≡ ended (map words_of done) ++ lines_of_parts (next ∷ parts)
ended_parts [] next parts = refl
ended_parts (part ∷ []) next parts = refl
ended_parts (part ∷ second ∷ done) next parts =
    ap (λ lines. Some (words_of part) ∷ lines) (ended_parts (second ∷ done) next parts)

over_last : (last : List ℕ) → IsOver (lines_of_parts (last ∷ []))
over_last [] = tt
over_last (b ∷ last) = tt

-- a line is left, as bytes are left and all parts are ended
line_left : (last first rest : List ℕ) (later : List (List ℕ)) (lines : List Line) → 0 < length rest
    → slice_split (λ b. b == 10) rest ≡ first ∷ later → lines_of_parts ((last ++ first) ∷ later) ≡ ended lines → 0 < length lines
line_left last first rest later (line ∷ lines) some parts is = omega arith
line_left last first rest (next ∷ later) [] some parts is = absurd (by_first (last ++ first) is)
  where
    by_first : (part : List ℕ) → lines_of_parts (part ∷ next ∷ later) ≡ [] → ⊥
    by_first [] is = cc
    by_first (b ∷ part) is = cc
line_left last first rest [] [] some parts is =
    let whole : rest ≡ first = sym (join_with_byte-slice_split 10 rest) ∙ ap (λ ps. join_with_byte 10 ps) parts in
    absurd (by_part (last ++ first) (simp length-append (omega (arith, ap length whole))) is)
  where
    by_part : (part : List ℕ) → 0 < length part → lines_of_parts (part ∷ []) ≡ [] → ⊥
    by_part [] some is = omega (arith, some)
    by_part (b ∷ part) some is = cc

-- the lines that are left after ended ones
rest_ended : (done lines : List Line) (rest : TextLines) → ended done ++ rest ≡ ended lines
    → (left : List Line) × (lines ≡ done ++ left) × (rest ≡ ended left)
rest_ended [] lines rest is = (lines, refl, is)
rest_ended (line ∷ done) [] rest is = cc
rest_ended (line ∷ done) (other ∷ lines) rest is =
    let same : line ≡ other = cc in
    let later : ended done ++ rest ≡ ended lines = cc in
    let found = rest_ended done lines rest later in
    (found.0, ap (λ l. l ∷ lines) (sym same) ∙ ap (λ ls. line ∷ ls) found.1, found.2)

-- a list that is cut before its last element is a beginning of its front
front : {X : Type 0} (xs done left : List X) (end : X) → 0 < length left → xs ++ end ∷ [] ≡ done ++ left
    → (more : List X) × (xs ≡ done ++ more)
front xs [] left end some is = (xs, refl)
front [] (y ∷ done) left end some is =
    let later : [] ≡ done ++ left = cc in
    absurd (omega (arith, simp length-append at (ap length later), some))
front (x ∷ xs) (y ∷ done) left end some is =
    let same : x ≡ y = cc in
    let later : xs ++ end ∷ [] ≡ done ++ left = cc in
    let found = front xs done left end some later in
    (found.0, ap (λ z. z ∷ xs) same ∙ ap (λ zs. y ∷ zs) found.1)

-- steps that come first don't fail if all steps don't
first_steps : {S : Type 0} (step : S → Line → Result S Wrong) (s state : S) (done more : List Line)
    → steps step s (done ++ more) ≡ Ok state → (between : S) × (steps step s done ≡ Ok between)
unfolding steps bind
first_steps step s state [] more stepped = (s, refl)
first_steps step s state (line ∷ done) more stepped =
    let first = bind_ok (step s line) (λ next. steps step next (done ++ more)) state stepped in
    let later = first_steps step first.0 state done more first.2 in
    (later.0, ap (λ r. bind r (λ next. steps step next done)) first.1 ∙ later.1)

first_inner : (done more : List Line) → AllByRecursion (λ line. line ≢ last_line) (done ++ more)
    → AllByRecursion (λ line. line ≢ last_line) done
first_inner [] more all = tt
first_inner (line ∷ done) more all = (all.0, first_inner done more all.1)

-- the text is cut after some lines
cut_after : {S T : Type 0} (f : Format S T) (state : S) (body done left : List Line)
    (over : TextLines)
    → AllByRecursion (λ line. line ≢ last_line) body → steps f.step f.start body ≡ Ok state
    → f.header ∷ (body ++ last_line ∷ []) ≡ done ++ left → 0 < length left → IsOver over
    → IsFirstFault f (ended done ++ over) (length done + 1) Syntax
cut_after f state body [] left over inner stepped is some none =
    no_header (λ begins. subst IsOver begins.1 none) refl refl
cut_after f state body (line ∷ done) left over inner stepped is some none =
    let same : f.header ≡ line = cc in
    let later : body ++ last_line ∷ [] ≡ done ++ left = cc in
    let found = front body done left last_line some later in
    let before = first_steps f.step f.start state done found.0 (ap (λ b. steps f.step f.start b) (sym found.1) ∙ stepped) in
    let good : IsGoodUpTo f (ended (line ∷ done) ++ over) done before.0 over = record {
      lines_are = ap (λ l. Some l ∷ (ended done ++ over)) (sym same);
      inner = first_inner done found.0 (subst (λ b. AllByRecursion (λ l. l ≢ last_line) b) found.1 inner);
      stepped = before.1;
    } in
    no_line done before.0 over good none (omega arith) refl

-- there are as many ended lines as line feeds
counted : (p : ℕ → Bool) (beginning : List ℕ) (done : List (List ℕ)) (last : List ℕ) → slice_split p beginning ≡ done ++ last ∷ []
    → length (map words_of done) + 1 ≡ count_by p beginning + 1
counted p beginning done last parts =
    ap (λ n. n + 1) (length-map done words_of) ∙ sym (length_push done last) ∙ ap length (sym parts)
    ∙ length-slice_split p beginning

pub cut_text : {S T : Type 0} (f : Format S T) (value : T) (beginning rest : List ℕ)
    → 0 < length rest → IsText f (lines_of (beginning ++ rest)) value
    → IsFirstFault f (lines_of beginning) (count_by (λ b. b == 10) beginning + 1) Syntax
unfolding lines_of
cut_text f value beginning rest some text =
    let cut = cuts (λ b. b == 10) beginning rest in
    let done = map words_of cut.done in
    let whole : ended done ++ lines_of_parts ((cut.last ++ cut.first) ∷ cut.later) ≡ ended (f.header ∷ (text.body ++ last_line ∷ [])) =
    sym (ended_parts cut.done (cut.last ++ cut.first) cut.later) ∙ ap lines_of_parts (sym cut.of_whole) ∙ text.good.lines_are
    ∙ sym (map-append (λ (l : Line). Some l) (f.header ∷ text.body) (last_line ∷ [])) in
    let left = rest_ended done (f.header ∷ (text.body ++ last_line ∷ []))
    (lines_of_parts ((cut.last ++ cut.first) ∷ cut.later)) whole in
    let more : 0 < length left.0 = line_left cut.last cut.first rest cut.later left.0 some cut.of_rest left.2 in
    let fault = cut_after f text.state text.body done left.0
    (lines_of_parts (cut.last ∷ [])) text.good.inner text.good.stepped left.1 more (over_last cut.last) in
    let lines : ended done ++ lines_of_parts (cut.last ∷ []) ≡ lines_of beginning =
    sym (ap lines_of_parts cut.of_beginning ∙ ended_parts cut.done cut.last []) in
    let count : length done + 1 ≡ count_by (λ b. b == 10) beginning + 1 =
    counted (λ b. b == 10) beginning cut.done cut.last cut.of_beginning in
    subst (λ ls. IsFirstFault f ls (count_by (λ b. b == 10) beginning + 1) Syntax) lines
    (subst (λ n. IsFirstFault f (ended done ++ lines_of_parts (cut.last ∷ [])) n Syntax) count fault)
