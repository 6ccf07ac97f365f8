-- Hexadecimal digits: the number that they spell, and that a number has one hexadecimal spelling.
use Rattle.std.specs.{Fmt.digits, List.list_all, Prelude.codes, Result.{OkIff, result_ok}, Str.{IsUtf8, bytes_eq, Parse.AllDigits}}
use Rattle.std.{specs.Str.Parse.{IsNumeral, ParsesUnsigned, digits_value}, proofs.Common.{[], ℕ, ◌++◌, ◌<◌, ◌^◌, ◌∙◌, ◌∷◌, ◌≡◌, ◌≢◌, Err}}
use Rattle.std.proofs.Common.{List, None, Ok, Result, Some, ap, arith, cond, drop, false, get_or, length, ltb-true, subst, sym, take, true}
use Rattle.std.proofs.lemmas.{Bool.{and_parts, cond-true, Decides.nat_tests}, List.take-append-drop, Option.cond_some}
use Rattle.std.proofs.lemmas.{Slice.Eq.bytes_eq-Decides, Str.Parse.without_leading_plus_none}
use Rattle.words.specs.Number.{below_limit, hex_digits_of, hex_of, hexadecimal, is_hex_digit, is_hexadecimal}
use Rattle.words.proofs.{Ascii.IsUtf8-from_test, Decimals.{by_result, leading, limited, some_then}, HexLaws.digits-digits_value}
use Rattle.words.proofs.HexLaws.{digits_value-digits, is_hexadecimal-digits, value_below}

hex_digit_is_ascii : (b : ℕ) → is_hex_digit b ≡ true → b < 128
hex_digit_is_ascii b h = grind (arith, nat_tests)

pub hexadecimal_is_text : (ds : List ℕ) → is_hexadecimal ds ≡ true → IsUtf8 ds
hexadecimal_is_text ds h = IsUtf8-from_test is_hex_digit hex_digit_is_ascii ds (and_parts _ _ h).1

-- a word that isn't hexadecimal spells no number
pub not_hexadecimal : (ds : List ℕ) → is_hexadecimal ds ≡ false → hex_digits_of ds ≡ None
unfolding hex_digits_of
not_hexadecimal ds h = ap (λ t. cond t (below_limit (digits_value 16 ds)) None) h

-- each digit has a value
pub all_digits : (ds : List ℕ) → list_all is_hex_digit ds ≡ true → AllDigits 16 ds
all_digits [] h = tt
all_digits (d ∷ ds) h = let test = and_parts _ _ h in (value_below d test.0, all_digits ds test.1)

-- the first digit is no plus sign
no_plus : (ds : List ℕ) → list_all is_hex_digit ds ≡ true → get_or ds 0 0 ≢ 43
no_plus [] h e = absurd (omega (arith, e))
no_plus (d ∷ ds) h e = plus_is_none d (and_parts _ _ h).0 e
  where
    plus_is_none : (b : ℕ) → is_hex_digit b ≡ true → b ≡ 43 → ⊥
    plus_is_none b test is = grind (arith, nat_tests)

-- `from_str_radix` reads the number that hexadecimal digits spell
pub parsed : {E : Type 0} (ds : List ℕ) (r : Result ℕ E) → is_hexadecimal ds ≡ true → ParsesUnsigned 64 16 ds r
    → result_ok r ≡ hex_digits_of ds
unfolding hex_digits_of
parsed {E = E} ds r h read =
    let tests = and_parts _ _ h in
    let full = (leading ds tests.0).0 in
    let bare = without_leading_plus_none ds (no_plus ds tests.1) in
    let plain = subst (λ bs. OkIff r (IsNumeral 16 bs × (digits_value 16 bs < 2 ^ 64)) (digits_value 16 bs)) bare read in
    by_result ds _ r full (without_digits r plain) ∙ sym (cond-true _ _ _ h)
  where
    without_digits : (s : Result ℕ E) → OkIff s (IsNumeral 16 ds × (digits_value 16 ds < 2 ^ 64)) (digits_value 16 ds)
        → OkIff s ((0 < length ds) × (digits_value 16 ds < 2 ^ 64)) (digits_value 16 ds)
    without_digits (Ok n) fact = ((fact.0.0.0, fact.0.1), fact.1)
    without_digits (Err e) refused = λ given. refused ((given.0, all_digits ds (and_parts _ _ h).1), given.1)

-- hexadecimal digits that spell a number are those written of it
hex_digits_take : (ds : List ℕ) (n : ℕ) → hex_digits_of ds ≡ Some n → (ds ≡ digits 16 false n) × (n < 2 ^ 64)
unfolding hex_digits_of
hex_digits_take ds n h =
    let spelled = some_then (is_hexadecimal ds) _ n h in
    let small = cond_some _ _ _ spelled.1 in
    let below = ltb-true _ _ small.0 in (
      sym (digits-digits_value ds spelled.0 below) ∙ ap (λ m. digits 16 false m) small.1,
      subst (λ m. m < 2 ^ 64) small.1 below,
    )

hex_digits_again : (n : ℕ) → n < 2 ^ 64 → hex_digits_of (digits 16 false n) ≡ Some n
unfolding hex_digits_of
hex_digits_again n small =
    cond-true _ _ _ (is_hexadecimal-digits n small) ∙ ap (λ m. below_limit m) (digits_value-digits n small) ∙ limited n small

-- a word that spells a number is the number's hexadecimal text
pub hex_takes : (word : List ℕ) (n : ℕ) → hex_of word ≡ Some n → (word ≡ hexadecimal n) × (n < 2 ^ 64)
unfolding hex_of
hex_takes word n h =
    let marked = some_then (bytes_eq (take 2 word) (codes "0x")) _ n h in
    let front : take 2 word ≡ codes "0x" = (bytes_eq-Decides _ _).0 marked.0 in
    let back = hex_digits_take (drop 2 word) n marked.1 in (
      sym (take-append-drop 2 word) ∙ ap (λ p. p ++ drop 2 word) front ∙ ap (λ ds. codes "0x" ++ ds) back.0,
      back.1,
    )

-- a number's hexadecimal text spells it
pub hex_again : (n : ℕ) → n < 2 ^ 64 → hex_of (hexadecimal n) ≡ Some n
unfolding hex_of
hex_again n small = hex_digits_again n small

-- the laws for reading hexadecimal digits
pub ruleset hexadecimal_laws = (not_hexadecimal, hexadecimal_is_text, parsed)
