-- That a text is the text of its lines, and that lines of plain words are the lines of their text.
use Rattle.std.{specs.List.{AllByRecursion, join_with_byte, onto_first, slice_split}, proofs.Common.{[], ℕ, ◌++◌, ◌<◌, ◌==◌, ◌∙◌, ◌∷◌, ◌≡◌}}
use Rattle.std.proofs.{Common.{List, Some, ap, append_assoc, arith, eq-eqb, false, map, refl, sym}, lemmas.Bool.{cond-false, cond-true}}
use Rattle.std.proofs.lemmas.{Bool.ne_eqb, List.Splits.join_with_byte-slice_split}
use Rattle.words.{specs.Text.{IsPlainLine, IsPlainWord, lines_of, lines_of_parts, text_of, words_of}, proofs.Splits.line_first}

-- properties of all elements: weakened, and of two lists joined
pub each : {X : Type 0} (P Q : X → Type 0) → ((x : X) → P x → Q x) → (xs : List X) → AllByRecursion P xs → AllByRecursion Q xs
each P Q f [] h = tt
each P Q f (x ∷ xs) h = (f x h.0, each P Q f xs h.1)

pub both : {X : Type 0} (P : X → Type 0) (xs ys : List X) → AllByRecursion P xs → AllByRecursion P ys
    → AllByRecursion P (xs ++ ys)
both P [] ys h k = k
both P (x ∷ xs) ys h k = (h.0, both P xs ys h.1 k)

-- bytes without the separator are one part, and are the first part before a separator
pub one_part : (c : ℕ) (xs : List ℕ) → AllByRecursion (λ b. (b == c) ≡ false) xs → slice_split (λ b. b == c) xs ≡ xs ∷ []
one_part c [] h = refl
one_part c (x ∷ xs) h = cond-false _ _ _ h.0 ∙ ap (λ parts. onto_first x parts) (one_part c xs h.1)

pub first_part : (c : ℕ) (xs ys : List ℕ) → AllByRecursion (λ b. (b == c) ≡ false) xs
    → slice_split (λ b. b == c) (xs ++ c ∷ ys) ≡ xs ∷ slice_split (λ b. b == c) ys
first_part c [] ys h = cond-true _ _ _ (eq-eqb c c refl)
first_part c (x ∷ xs) ys h = cond-false _ _ _ h.0 ∙ ap (λ parts. onto_first x parts) (first_part c xs ys h.1)

-- a plain byte is no space and no line feed
not_space : (b : ℕ) → 32 < b → (b == 32) ≡ false
not_space b h = ne_eqb b 32 (λ e. absurd (omega (arith, e)))

not_feed : (b : ℕ) → 32 < b → (b == 10) ≡ false
not_feed b h = ne_eqb b 10 (λ e. absurd (omega (arith, e)))

-- plain words joined by spaces are the words of that line
pub words_of-join : (line : List (List ℕ)) → IsPlainLine line → words_of (join_with_byte 32 line) ≡ line
words_of-join [] h = absurd h
words_of-join (word ∷ []) h = one_part 32 word (each _ _ not_space word h.0)
words_of-join (word ∷ next ∷ words) h =
    first_part 32 word _ (each _ _ not_space word h.0) ∙ ap (λ ws. word ∷ ws) (words_of-join (next ∷ words) h.1)

-- a plain line has no line feed
no_feed : (line : List (List ℕ)) → AllByRecursion IsPlainWord line
    → AllByRecursion (λ b. (b == 10) ≡ false) (join_with_byte 32 line)
no_feed [] h = tt
no_feed (word ∷ []) h = each _ _ not_feed word h.0
no_feed (word ∷ next ∷ words) h =
    both _ word _ (each _ _ not_feed word h.0) (refl, no_feed (next ∷ words) h.1)

plain_words : (line : List (List ℕ)) → IsPlainLine line → AllByRecursion IsPlainWord line
plain_words [] h = absurd h
plain_words (word ∷ words) h = h

-- the lines of the text of plain lines
pub text_lines : (lines : List (List (List ℕ))) → AllByRecursion IsPlainLine lines
    → lines_of (text_of lines) ≡ map (λ line. Some line) lines
unfolding lines_of
text_lines [] h = refl
text_lines (line ∷ lines) h =
    ap (λ bytes. lines_of bytes) (append_assoc (join_with_byte 32 line) (10 ∷ []) (text_of lines))
    ∙ line_first (join_with_byte 32 line ++ 10 ∷ text_of lines) (join_with_byte 32 line) (text_of lines)
    (first_part 10 (join_with_byte 32 line) (text_of lines) (no_feed line (plain_words line h.0)))
    ∙ ap (λ words. Some words ∷ lines_of (text_of lines)) (words_of-join line h.0)
    ∙ ap (λ later. Some line ∷ later) (text_lines lines h.1)

-- bytes whose lines are all ended are the text of those lines
pub spelled : (bytes : List ℕ) (lines : List (List (List ℕ))) → lines_of bytes ≡ map (λ line. Some line) lines
    → bytes ≡ text_of lines
unfolding lines_of
spelled bytes lines e = sym (join_with_byte-slice_split 10 bytes) ∙ by_parts (slice_split (λ b. b == 10) bytes) lines e
  where
    by_parts : (parts : List (List ℕ)) (ls : List (List (List ℕ))) → lines_of_parts parts ≡ map (λ line. Some line) ls
        → join_with_byte 10 parts ≡ text_of ls
    by_parts [] [] e = refl
    by_parts [] (l ∷ ls) e = cc
    by_parts ([] ∷ []) [] e = refl
    by_parts ([] ∷ []) (l ∷ ls) e = cc
    by_parts ((b ∷ bs) ∷ []) [] e = cc
    by_parts ((b ∷ bs) ∷ []) (l ∷ ls) e = cc
    by_parts (part ∷ next ∷ parts) [] e = cc
    by_parts (part ∷ next ∷ parts) (l ∷ ls) e =
        let first : words_of part ≡ l = cc in
        let later : lines_of_parts (next ∷ parts) ≡ map (λ line. Some line) ls = cc in
        ap (λ bytes. part ++ 10 ∷ bytes) (by_parts (next ∷ parts) ls later)
        ∙ ap (λ line. line ++ 10 ∷ text_of ls)
        (sym (join_with_byte-slice_split 32 part) ∙ ap (λ words. join_with_byte 32 words) first)
        ∙ sym (append_assoc (join_with_byte 32 l) (10 ∷ []) (text_of ls))
