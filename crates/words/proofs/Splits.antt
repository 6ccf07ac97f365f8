-- Lists of bytes split at a byte: their parts, and what these say of words and lines.
use Rattle.std.specs.{List.{join_with_byte, onto_first, position, position_or_len, slice_split}, Str.bytes_eq}
use Rattle.std.proofs.Common.{[], ℕ, ◌+◌, ◌-◌, ◌<◌, ◌==◌, ◌∙◌, ◌∷◌, ◌≡◌, Bool, Err, List, None, Ok, Option, Some, ap, arith}
use Rattle.std.proofs.Common.{cond, drop, false, get_or, length, ltb-false, ltb-true, nat_lt, refl, subst, sym, take, true}
use Rattle.std.proofs.lemmas.{Bool.Decides.same_from_decides, List.Splits.{join_with_byte-slice_split, slice_split_first, slice_split_none}}
use Rattle.std.proofs.lemmas.{List.{Sums.{fails_before_first, position_or_len_is}, take_rest}, Option.none-some}
use Rattle.{std.proofs.lemmas.Slice.Eq.{bytes_eq-Decides, slice_eq-Decides}, memchr.specs.Find.{IsFirstByte, is_byte}}
use Rattle.words.specs.{declared.faults.Wrong.TheVariants.Syntax, Fault.fault_at, FirstFault.{Line, TextLines}}
use Rattle.words.specs.{Reading.{after_line, end_at, ended_at}, Text.{IsOver, Progress, line_is, lines_of, lines_of_parts, words_of}}

pub parts_some : {X : Type 0} (p : X → Bool) (xs : List X)
    → (part : List X) × (parts : List (List X)) × (slice_split p xs ≡ part ∷ parts)
parts_some {X = X} p [] = ([], [], refl)
parts_some {X = X} p (x ∷ xs) = by_test (p x) (slice_split p xs) (parts_some p xs)
  where
    by_test : (b : Bool) (parts : List (List X)) → (first : List X) × (later : List (List X)) × (parts ≡ first ∷ later)
        → (part : List X) × (more : List (List X)) × (cond b ([] ∷ parts) (onto_first x parts) ≡ part ∷ more)
    by_test true parts h = ([], parts, refl)
    by_test false parts h = (x ∷ h.0, h.1, ap (λ y. onto_first x y) h.2)

pub never_ended : (line : List ℕ) → ended_at (words_of line) ≡ Err Syntax
unfolding ended_at
never_ended line = let h = parts_some (λ b. b == 32) line in ap ended_at h.2

-- the first part ends at the first byte that passes
pub split_at_position : (p : ℕ → Bool) (bs : List ℕ) (at : ℕ) → position p bs ≡ Some at
    → slice_split p bs ≡ take at bs ∷ slice_split p (drop (at + 1) bs)
split_at_position p bs at found = by_test (nat_lt (position_or_len p bs) (length bs)) refl found
  where
    by_test : (b : Bool) → nat_lt (position_or_len p bs) (length bs) ≡ b → cond b (Some (position_or_len p bs)) None ≡ Some at
        → slice_split p bs ≡ take at bs ∷ slice_split p (drop (at + 1) bs)
    by_test true below is =
        let e : position_or_len p bs ≡ at = cc in
        let first = slice_split_first p bs 0 (ltb-true _ _ below) in
        first ∙ ap (λ i. take i bs ∷ slice_split p (drop (i + 1) bs)) e
    by_test false past is = absurd (none-some at is)

-- the parts as the code cuts the bytes
pub split_round : (p : ℕ → Bool) (bs : List ℕ) (at : ℕ) → position p bs ≡ Some at
    → slice_split p bs ≡ take at bs ∷ slice_split p (take (length bs - (at + 1)) (drop (at + 1) bs))
split_round p bs at found = rw take_rest (split_at_position p bs at found)

-- the bytes are the only part if no byte passes
pub split_nowhere : (p : ℕ → Bool) (bs : List ℕ) → position p bs ≡ None → slice_split p bs ≡ bs ∷ []
split_nowhere p bs missing = by_test (nat_lt (position_or_len p bs) (length bs)) refl missing
  where
    by_test : (b : Bool) → nat_lt (position_or_len p bs) (length bs) ≡ b → cond b (Some (position_or_len p bs)) None ≡ None
        → slice_split p bs ≡ bs ∷ []
    by_test true below is = cc
    by_test false past is =
        let reached = ltb-false _ _ past in
        slice_split_none p bs (λ k d h. let before : k < position_or_len p bs = omega arith in fails_before_first p bs k d before)

passes_not : (b : Bool) → (b ≡ true → ⊥) → b ≡ false
passes_not true never = absurd (never refl)
passes_not false never = refl

-- a search for a byte ends at the first place that has it
pub first_position : (byte : ℕ) (bs : List ℕ) (r : Option ℕ) → IsFirstByte (is_byte byte) bs r → r ≡ position (λ b. b == byte) bs
first_position byte bs None nowhere =
    let whole : position_or_len (λ b. b == byte) bs ≡ length bs =
    position_or_len_is (λ b. b == byte) bs (length bs) 0 (omega arith)
    (λ k less. passes_not (get_or bs k 0 == byte) (nowhere k (omega arith) less)) (λ less. absurd (omega (arith, less))) in
    by_test (nat_lt (position_or_len (λ b. b == byte) bs) (length bs)) refl whole
  where
    by_test : (b : Bool) → nat_lt (position_or_len (λ x. x == byte) bs) (length bs) ≡ b
        → position_or_len (λ x. x == byte) bs ≡ length bs
        → None ≡ cond b (Some (position_or_len (λ x. x == byte) bs)) None
    by_test true below whole = let less = ltb-true _ _ below in absurd (omega (arith, less, whole))
    by_test false past whole = refl
first_position byte bs (Some at) found =
    let below : at < length bs = found.0.high in
    let first : position_or_len (λ b. b == byte) bs ≡ at =
    position_or_len_is (λ b. b == byte) bs at 0 (omega (arith, below))
    (λ k less. passes_not (get_or bs k 0 == byte) (found.0.before k (omega arith) less)) (λ less. found.1) in
    by_test (nat_lt (position_or_len (λ b. b == byte) bs) (length bs)) refl first below
  where
    by_test : (b : Bool) → nat_lt (position_or_len (λ x. x == byte) bs) (length bs) ≡ b
        → position_or_len (λ x. x == byte) bs ≡ at → at < length bs
        → Some at ≡ cond b (Some (position_or_len (λ x. x == byte) bs)) None
    by_test true below first within = ap (λ k. Some k) (sym first)
    by_test false past first within = let reached = ltb-false _ _ past in absurd (omega (arith, reached, first, within))

-- two lines are equal as bytes exactly if their words are
pub same_words : (a b : List ℕ) → bytes_eq a b ≡ line_is (words_of a) (words_of b)
same_words a b =
    let bytes = bytes_eq-Decides a b in
    let words = slice_eq-Decides bytes_eq-Decides (words_of a) (words_of b) (line_is (words_of a) (words_of b)) refl in
    same_from_decides _ _ bytes (
      λ e. sym (join_with_byte-slice_split 32 a) ∙ ap (λ ws. join_with_byte 32 ws) (words.0 e) ∙ join_with_byte-slice_split 32 b,
      λ e. words.1 (ap (λ line. words_of line) e),
    )

-- lines that pass the test are equal
pub line_same : (line other : List (List ℕ)) → line_is line other ≡ true → line ≡ other
line_same line other = (slice_eq-Decides bytes_eq-Decides line other (line_is line other) refl).0

pub same_line : (line : List (List ℕ)) → line_is line line ≡ true
same_line line = (slice_eq-Decides bytes_eq-Decides line line (line_is line line) refl).1 refl

pub never_no_words : (line : List ℕ) → line_is [] (words_of line) ≡ false
never_no_words line = let h = parts_some (λ b. b == 32) line in ap (λ words. line_is [] words) h.2

-- the first line of a text that has a line feed
pub line_first : (bytes line later : List ℕ) → slice_split (λ b. b == 10) bytes ≡ line ∷ slice_split (λ b. b == 10) later
    → lines_of bytes ≡ Some (words_of line) ∷ lines_of later
unfolding lines_of
line_first bytes line later e =
    let h = parts_some (λ b. b == 10) later in
    ap lines_of_parts (e ∙ ap (λ parts. line ∷ parts) h.2) ∙ ap (λ parts. Some (words_of line) ∷ lines_of_parts parts) (sym h.2)

-- bytes without a line feed have no ended line
pub over_nowhere : (bytes : List ℕ) → slice_split (λ b. b == 10) bytes ≡ bytes ∷ [] → IsOver (lines_of bytes)
unfolding lines_of
over_nowhere bytes e = subst (λ parts. IsOver (lines_of_parts parts)) (sym e) (over_one bytes)
  where
    over_one : (part : List ℕ) → IsOver (lines_of_parts (part ∷ []))
    over_one [] = tt
    over_one (b ∷ bs) = tt

abbrev HasLine : TextLines → Type 0
HasLine all = (line : Option Line) × (lines : TextLines) × (all ≡ line ∷ lines)

-- bytes have a line if there are any
lines_some : (bytes : List ℕ) → 0 < length bytes → HasLine (lines_of bytes)
unfolding lines_of
lines_some [] h = absurd (omega (arith, h))
lines_some (b ∷ bs) h = by_test (b == 10) (slice_split (λ x. x == 10) bs) (parts_some (λ x. x == 10) bs)
  where
    by_parts : (part : List ℕ) (parts : List (List ℕ)) → HasLine (lines_of_parts ((b ∷ part) ∷ parts))
    by_parts part [] = (None, [], refl)
    by_parts part (next ∷ more) = (Some (words_of (b ∷ part)), lines_of_parts (next ∷ more), refl)

    by_test : (t : Bool) (parts : List (List ℕ)) → (first : List ℕ) × (later : List (List ℕ)) × (parts ≡ first ∷ later)
        → HasLine (lines_of_parts (cond t ([] ∷ parts) (onto_first b parts)))
    by_test true parts h = (Some (words_of []), lines_of_parts (h.0 ∷ h.1), ap (λ ps. lines_of_parts ([] ∷ ps)) h.2)
    by_test false parts h =
        let line = by_parts h.0 h.1 in (line.0, line.1, ap (λ ps. lines_of_parts (onto_first b ps)) h.2 ∙ line.2)

-- nothing follows if no byte is left
pub end_none : (taken : ℕ) (bytes : List ℕ) → length bytes ≡ 0 → end_at (record { taken = taken; lines = lines_of bytes }) ≡ Ok tt
unfolding end_at lines_of
end_none taken [] h = refl
end_none taken (b ∷ bs) h = absurd (omega (arith, h))

-- something follows if a byte is left
pub end_some : (taken : ℕ) (bytes : List ℕ) → 0 < length bytes
    → end_at (record { taken = taken; lines = lines_of bytes }) ≡ Err (fault_at (taken + 1) Syntax)
unfolding end_at
end_some taken bytes h =
    let l = lines_some bytes h in
    ap (λ lines. end_at (record { taken = taken; lines = lines })) l.2

-- a reader stays where it is if no ended line comes next
stays_at : (taken : ℕ) (lines : List (Option (List (List ℕ)))) → IsOver lines
    → after_line (record { taken = taken; lines = lines }) ≡ record { taken = taken; lines = lines }
unfolding after_line
stays_at taken [] over = refl
stays_at taken (None ∷ lines) over = refl
stays_at taken (Some line ∷ lines) over = absurd over

pub stays : (old new : Progress) → IsOver old.lines → new ≡ old → new ≡ after_line old
stays old new over same = same ∙ sym (stays_at old.taken old.lines over)

-- a reader stands after the line that it took
pub moves : (old new : Progress) (line : List (List ℕ)) → old.lines ≡ Some line ∷ new.lines → new.taken ≡ old.taken + 1
    → new ≡ after_line old
unfolding after_line
moves old new line is counted =
    ap (λ n. record { taken = n; lines = new.lines }) counted
    ∙ sym (ap (λ lines. after_line (record { taken = old.taken; lines = lines })) is)
