-- Numbers of one digit before a space.
use Rattle.std.{specs.{Char.is_ascii_digit, Int.IsInRange, List.{onto_first}}, proofs.Common.{[], ℕ, ◌-◌, ◌∙◌}}
use Rattle.std.proofs.Common.{◌∷◌, ◌≡◌, ◌≤◌, List, Ok, Some, ap, arith, cond, drop, get_or, length, refl, sym}
use Rattle.std.proofs.{Common.{take, true}, lemmas.{Bool.ne_eqb, Fmt.decimal_digit, List.take_rest}}
use Rattle.words.{specs.{Number.{dec_of, number_at}, Reading.{bind, or_syntax, word_at}, Text.words_of}, proofs.Decimals.dec_again}
use Rattle.words.proofs.Decimals.{in_range}

digit_of : (d : ℕ) → IsInRange 48 57 d → dec_of (d ∷ []) ≡ Some (d - 48)
digit_of d range =
    ap (λ x. dec_of (x ∷ [])) (omega (arith, range.0))
    ∙ ap dec_of (sym (decimal_digit (d - 48) (omega (arith, range.1)))) ∙ dec_again (d - 48) (omega (arith, range.1))

-- the words of a line that begins with a digit and a space
words_from : (d : ℕ) (later : List ℕ) → IsInRange 48 57 d → words_of (d ∷ 32 ∷ later) ≡ (d ∷ []) ∷ words_of later
words_from d later range =
    ap (λ t. cond t ([] ∷ ([] ∷ words_of later)) (onto_first d ([] ∷ words_of later))) (ne_eqb d 32 (omega (arith, range.0)))

number_from : (d : ℕ) (later : List ℕ) → IsInRange 48 57 d → number_at (words_of (d ∷ 32 ∷ later)) ≡ Ok (d - 48, words_of later)
unfolding number_at word_at or_syntax bind
number_from d later range = rw (words_from d later range, digit_of d range) refl

pub one_digit :
    (bs : List ℕ) → 2 ≤ length bs → get_or bs 1 0 ≡ 32 → is_ascii_digit (get_or bs 0 0) ≡ true
    → number_at (words_of bs) ≡ Ok (get_or bs 0 0 - 48, words_of (take (length bs - 2) (drop 2 bs)))
one_digit [] more space digit = absurd (omega (arith, more))
one_digit (d ∷ []) more space digit = absurd (omega (arith, more))
one_digit (d ∷ s ∷ later) more space digit =
    rw take_rest
    (ap (λ b. number_at (words_of (d ∷ b ∷ later))) space ∙ number_from d later (in_range d digit))

pub one_word :
    (bs : List ℕ) → 2 ≤ length bs → get_or bs 1 0 ≡ 32 → is_ascii_digit (get_or bs 0 0) ≡ true
    → words_of (take (length bs - 2) (drop 2 bs)) ≡ drop 1 (words_of bs)
one_word [] more space digit = absurd (omega (arith, more))
one_word (d ∷ []) more space digit = absurd (omega (arith, more))
one_word (d ∷ s ∷ later) more space digit =
    rw take_rest
    (sym (ap (λ b. drop 1 (words_of (d ∷ b ∷ later))) space ∙ ap (drop 1) (words_from d later (in_range d digit))))
