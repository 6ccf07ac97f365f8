-- Names of objects: each determines its label and its part.
use Rattle.std.proofs.Common.{[], ℕ, ◌++◌, ◌&&◌, ◌<◌, ◌==◌, ◌^◌, ◌∙◌, ◌∷◌, ◌≡◌, Bool, List, None, Option, Some, ap, arith, cond, drop, false, get_or, refl, sym, true}
use Rattle.std.specs.{Char.{is_ascii_digit}, Fmt.{decimal}, List.{list_all}, Option.{option_map}, Prelude.{not, unwrap_or}}
use Rattle.std.proofs.lemmas.{Bool.{and_parts, Decides.nat_tests}, Option.{none-some}}
use Rattle.words.{specs.Number.{dec_of}, proofs.Spellings.{decimal_iff}}
use Rattle.microkit.specs.{Names.{object_name, part_number, part_word}, declared.names.Part.{Part}}
use Rattle.microkit.specs.declared.names.Part.TheVariants as part

-- the part that a word stands for, by its first letter
part_of : List ℕ → Option Part
part_of [] = None
part_of (b ∷ bs) =
    cond (b == 115) (Some part.Space)
    (cond (b == 109) (Some part.Main)
    (cond (b == 98) (Some part.Bell)
    (cond (b == 101) (Some part.Entry)
    (cond (b == 97) (Some part.Answer)
    (cond (b == 102) (Some part.Frame)
    (cond (b == 118) (option_map (λ n. part.Processor n) (dec_of (drop 3 bs)))
    (cond (b == 116) (option_map (λ n. part.Time n) (dec_of (drop 3 bs))) None)))))))

part_again : (p : Part) → part_number p < 2 ^ 64 → part_of (part_word p) ≡ Some p
unfolding part_of
part_again part.Space fits = refl
part_again part.Main fits = refl
part_again part.Bell fits = refl
part_again part.Entry fits = refl
part_again part.Answer fits = refl
part_again part.Frame fits = refl
part_again (part.Processor n) fits = ap (λ o. option_map (λ m. part.Processor m) o) ((decimal_iff (decimal n) n).1 (refl, fits))
part_again (part.Time n) fits = ap (λ o. option_map (λ m. part.Time m) o) ((decimal_iff (decimal n) n).1 (refl, fits))

-- no `_` stands in a word
abbrev pub no_gap : List ℕ → Bool
no_gap word = list_all (λ b. not (b == 95)) word

digit_no_gap : (b : ℕ) → is_ascii_digit b ≡ true → not (b == 95) ≡ true
digit_no_gap b digit = grind (arith, nat_tests)

digits_no_gap : (word : List ℕ) → list_all is_ascii_digit word ≡ true → no_gap word ≡ true
digits_no_gap [] digits = refl
digits_no_gap (b ∷ bs) digits =
    let parts = and_parts _ _ digits in
    ap (λ t. t && no_gap bs) (digit_no_gap b parts.0) ∙ digits_no_gap bs parts.1

taken : (test : Bool) (o : Option ℕ) (n : ℕ) → cond test o None ≡ Some n → test ≡ true
taken true o n e = refl
taken false o n e = absurd (none-some _ e)

-- a number is spelled by digits
pub decimal_digits : (n : ℕ) → n < 2 ^ 64 → list_all is_ascii_digit (decimal n) ≡ true
unfolding dec_of
decimal_digits n fits = (and_parts _ _ (taken _ _ n ((decimal_iff (decimal n) n).1 (refl, fits)))).1

decimal_no_gap : (n : ℕ) → n < 2 ^ 64 → no_gap (decimal n) ≡ true
decimal_no_gap n fits = digits_no_gap (decimal n) (decimal_digits n fits)

word_no_gap : (p : Part) → part_number p < 2 ^ 64 → no_gap (part_word p) ≡ true
word_no_gap part.Space fits = refl
word_no_gap part.Main fits = refl
word_no_gap part.Bell fits = refl
word_no_gap part.Entry fits = refl
word_no_gap part.Answer fits = refl
word_no_gap part.Frame fits = refl
word_no_gap (part.Processor n) fits = decimal_no_gap n fits
word_no_gap (part.Time n) fits = decimal_no_gap n fits

gap_inside : (b u : List ℕ) → no_gap (b ++ 95 ∷ u) ≡ true → ⊥
gap_inside [] u h = cc
gap_inside (x ∷ b) u h = gap_inside b u (and_parts _ _ h).1

-- the last `_` of a text is in one place
last_gap : (a b t u : List ℕ) → no_gap t ≡ true → no_gap u ≡ true → a ++ 95 ∷ t ≡ b ++ 95 ∷ u → (a ≡ b) × (t ≡ u)
last_gap [] [] t u left right e = (refl, ap (λ w. drop 1 w) e)
last_gap [] (y ∷ b) t u left right e =
    absurd (gap_inside b u (ap (λ w. no_gap w) (sym (ap (λ w. drop 1 w) e)) ∙ left))
last_gap (x ∷ a) [] t u left right e =
    absurd (gap_inside a t (ap (λ w. no_gap w) (ap (λ w. drop 1 w) e) ∙ right))
last_gap (x ∷ a) (y ∷ b) t u left right e =
    let rest = last_gap a b t u left right (ap (λ w. drop 1 w) e) in
    (ap (λ n. n ∷ a) (ap (λ w. get_or w 0 0) e) ∙ ap (λ w. y ∷ w) rest.0, rest.1)

pub names_tell : (one other : List ℕ) (p q : Part) → part_number p < 2 ^ 64 → part_number q < 2 ^ 64
    → object_name one p ≡ object_name other q → (one ≡ other) × (p ≡ q)
names_tell one other p q small little e =
    let told = last_gap one other (part_word p) (part_word q) (word_no_gap p small) (word_no_gap q little) e in
    (told.0, some_same (sym (part_again p small) ∙ ap part_of told.1 ∙ part_again q little))
  where
    some_same : Some p ≡ Some q → p ≡ q
    some_same same = ap (λ o. unwrap_or o p) same
