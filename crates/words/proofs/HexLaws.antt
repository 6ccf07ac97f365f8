-- That a number below 2 ^ 64 has one spelling in hexadecimal digits without a leading zero, the one that `{:x}` writes.
use Rattle.std.specs.{Char.digit_value, Fmt.{digit_glyph, digits, digits_onto}, List.list_all, Str.Parse.{digits_value, digits_value_after}}
use Rattle.std.proofs.Common.{[], ℕ, ◌%◌, ◌*◌, ◌++◌, ◌+◌, ◌-◌, ◌/◌, ◌<◌, ◌==◌, ◌^◌, ◌∙◌, ◌∷◌, ◌≡◌, ◌≢◌, ◌≤◌, Bool, List, ap, arith, eq-eqb}
use Rattle.std.proofs.Common.{false, get_or, length, lit<, lit≤, ltb-false, ltb-true, nat_lt, not, refl, suc, sym, true, zero, zero-add}
use Rattle.std.proofs.Math.Nat.{div-eq_of_lt, div-lt_iff_lt-mul, mod-eq_of_lt, mod-lt, mul-le-mul_right, pow-le-pow_right, pow-suc}
use Rattle.std.proofs.lemmas.Bool.{Decides.nat_tests, and_from, and_parts, cond-false, cond-true, cond_both, eqb-false, eqb-true}
use Rattle.std.proofs.lemmas.{Bool.{false≢true, ne_eqb}, Fmt.{digits_is_IsNumeral, hex_one_digit}, List.append-nil, Nat.div-mul-add}
use Rattle.{std.proofs.lemmas.Nat.mod-mul-add, words.{specs.Number.{is_hex_digit, is_hexadecimal}, proofs.Decimals.not_zero_first}}

-- a digit's glyph is a hexadecimal digit, not 0 if the digit isn't
glyph_is_digit : (d : ℕ) → d < 16 → is_hex_digit (digit_glyph false d) ≡ true
glyph_is_digit d h = grind (arith, nat_tests)

glyph_not_zero : (d : ℕ) → 0 < d → 48 < digit_glyph false d
glyph_not_zero d h = grind (arith, nat_tests)

-- the glyph of a hexadecimal digit's value is the digit
glyph_of_value : (b : ℕ) → is_hex_digit b ≡ true → digit_glyph false (digit_value b) ≡ b
glyph_of_value b h = grind (arith, nat_tests)

pub value_below : (b : ℕ) → is_hex_digit b ≡ true → digit_value b < 16
value_below b h = grind (arith, nat_tests)

value_not_zero : (b : ℕ) → is_hex_digit b ≡ true → b ≢ 48 → 0 < digit_value b
value_not_zero b h other = grind (arith, nat_tests)

-- each digit that is written is a hexadecimal digit
all_written : (k n : ℕ) (acc : List ℕ) → list_all is_hex_digit acc ≡ true
    → list_all is_hex_digit (digits_onto k 16 false n acc) ≡ true
all_written zero n acc h = h
all_written (suc k) n acc h =
    let pos : 0 < 16 = lit< tt in
    let more : list_all is_hex_digit (digit_glyph false (n % 16) ∷ acc) ≡ true =
    and_from _ _ (glyph_is_digit (n % 16) (mod-lt n pos)) h in
    cond_both (n / 16 == 0) (digit_glyph false (n % 16) ∷ acc)
    (digits_onto k 16 false (n / 16) (digit_glyph false (n % 16) ∷ acc)) (λ ds. list_all is_hex_digit ds ≡ true) (λ _. more)
    (λ _. all_written k (n / 16) _ more)

-- the first digit written of a number above 0 is not 0
first_written : (k n : ℕ) (acc : List ℕ) → 0 < n → n < 16 ^ k → 48 < get_or (digits_onto k 16 false n acc) 0 0
first_written zero n acc above small = absurd (omega arith)
first_written (suc k) n acc above small =
    cond_both (n / 16 == 0) (digit_glyph false (n % 16) ∷ acc)
    (digits_onto k 16 false (n / 16) (digit_glyph false (n % 16) ∷ acc)) (λ ds. 48 < get_or ds 0 0)
    (λ last. let none = eqb-true _ _ last in glyph_not_zero (n % 16) (omega arith))
    (λ more. let some = eqb-false _ _ more in let pos : 0 < 16 = lit< tt in first_written k (n / 16) _ (omega arith)
    ((div-lt_iff_lt-mul pos).1 (omega (arith, pow-suc 16 k))))

-- digits after a number make it at least as large as their places
value_grows : (m : ℕ) (ds : List ℕ) → m * 16 ^ length ds ≤ digits_value_after 16 m ds
value_grows m [] = omega arith
value_grows m (d ∷ ds) =
    let more = value_grows (m * 16 + digit_value d) ds in
    let places : m * 16 ^ length (d ∷ ds) ≡ m * (16 ^ length ds * 16) = ap (λ p. m * p) (pow-suc 16 (length ds)) in
    omega (arith, more, places)

-- a number followed by digits is written as the number and then these digits
written_after : (ds : List ℕ) (j m : ℕ) (acc : List ℕ) → list_all is_hex_digit ds ≡ true → 0 < m
    → digits_onto (length ds + j) 16 false (digits_value_after 16 m ds) acc ≡ digits_onto j 16 false m (ds ++ acc)
written_after [] j m acc h above = ap (λ k. digits_onto k 16 false m acc) (zero-add j)
written_after (d ∷ ds) j m acc h above =
    let test = and_parts _ _ h in
    let low = value_below d test.0 in
    let front = div-mul-add m 16 (digit_value d) low in
    let some : ((m * 16 + digit_value d) / 16 == 0) ≡ false =
    ne_eqb _ _ (λ (e : (m * 16 + digit_value d) / 16 ≡ 0). absurd (omega (arith, front, e, above))) in
    let fuel : length (d ∷ ds) + j ≡ length ds + suc j = omega arith in
    ap (λ k. digits_onto k 16 false (digits_value_after 16 (m * 16 + digit_value d) ds) acc) fuel
    ∙ written_after ds (suc j) (m * 16 + digit_value d) acc test.1 (omega arith)
    ∙ cond-false _ _ _ some
    ∙ ap (λ q. digits_onto j 16 false q (digit_glyph false ((m * 16 + digit_value d) % 16) ∷ (ds ++ acc))) front
    ∙ ap (λ g. digits_onto j 16 false m (g ∷ (ds ++ acc)))
    (ap (λ r. digit_glyph false r) (mod-mul-add m 16 (digit_value d) low) ∙ glyph_of_value d test.0)

-- fewer than 16 digits stand after the first of a number below 2 ^ 64
few : (n : ℕ) → 16 ^ n < 2 ^ 64 → n < 16
few n small = by_test (nat_lt n 16) refl
  where
    by_test : (t : Bool) → nat_lt n 16 ≡ t → n < 16
    by_test true e = ltb-true _ _ e
    by_test false e =
        let pos : 0 < 16 = lit< tt in
        let past = ltb-false _ _ e in
        let large : 16 ^ 16 ≤ 16 ^ n = pow-le-pow_right pos past in
        absurd (omega (arith, large, small))

written_first : (d : ℕ) (rest : List ℕ) → is_hex_digit d ≡ true → list_all is_hex_digit rest ≡ true → 0 < digit_value d
    → digits_value 16 (d ∷ rest) < 2 ^ 64 → digits_onto 64 16 false (digits_value 16 (d ∷ rest)) [] ≡ d ∷ rest
written_first d rest first later above small =
    let low = value_below d first in
    let same : digits_value 16 (d ∷ rest) ≡ digits_value_after 16 (digit_value d) rest =
    ap (λ n. digits_value_after 16 n rest) (omega arith) in
    let large = value_grows (digit_value d) rest in
    let one_more : 1 * 16 ^ length rest ≤ digit_value d * 16 ^ length rest = mul-le-mul_right (16 ^ length rest) above in
    let short = few (length rest) (omega arith) in
    let fuel : 64 ≡ length rest + suc (63 - length rest) = omega arith in
    ap (λ n. digits_onto 64 16 false n []) same
    ∙ ap (λ k. digits_onto k 16 false (digits_value_after 16 (digit_value d) rest) []) fuel
    ∙ written_after rest (suc (63 - length rest)) (digit_value d) [] later above
    ∙ cond-true _ _ _ (eq-eqb _ 0 (div-eq_of_lt low))
    ∙ ap (λ g. g ∷ (rest ++ [])) (ap (λ n. digit_glyph false n) (mod-eq_of_lt low) ∙ glyph_of_value d first)
    ∙ ap (λ ds. d ∷ ds) (append-nil rest)

-- hexadecimal digits are those written of their number
pub digits-digits_value : (ds : List ℕ) → is_hexadecimal ds ≡ true → digits_value 16 ds < 2 ^ 64
    → digits 16 false (digits_value 16 ds) ≡ ds
unfolding digits
digits-digits_value [] h small = cc
digits-digits_value (d ∷ []) h small =
    let test = (and_parts (is_hex_digit d) true h).0 in
    let same : digits_value 16 (d ∷ []) ≡ digit_value d = omega arith in
    ap (λ n. digits 16 false n) same ∙ hex_one_digit false (digit_value d) (value_below d test)
    ∙ ap (λ g. g ∷ []) (glyph_of_value d test)
digits-digits_value (d ∷ e ∷ ds) h small =
    let tests = and_parts _ _ h in
    let digit = and_parts _ _ tests.1 in
    let above = value_not_zero d digit.0
    (λ zero_first. absurd (false≢true (sym (ap (λ b. not (b == 48)) zero_first) ∙ tests.0))) in
    written_first d (e ∷ ds) digit.0 digit.1 above small

some_first : (ds : List ℕ) → 48 < get_or ds 0 0 → 0 < length ds
some_first [] first = absurd (omega (arith, first))
some_first (d ∷ ds) first = omega arith

-- a number's digits are hexadecimal digits without a leading zero
pub is_hexadecimal-digits : (n : ℕ) → n < 2 ^ 64 → is_hexadecimal (digits 16 false n) ≡ true
unfolding digits
is_hexadecimal-digits zero small = ap (λ ds. is_hexadecimal ds) (hex_one_digit false 0 (lit< tt))
is_hexadecimal-digits (suc n) small =
    let first = first_written 64 (suc n) [] (omega arith) (omega arith) in
    let written = digits_onto 64 16 false (suc n) [] in
    and_from _ _ (not_zero_first written (some_first written first) first) (all_written 64 (suc n) [] refl)

-- the value of a number's digits is the number
pub digits_value-digits : (n : ℕ) → n < 2 ^ 64 → digits_value 16 (digits 16 false n) ≡ n
digits_value-digits n small = (digits_is_IsNumeral 16 false (lit≤ tt) (lit≤ tt) n (omega arith)).1
