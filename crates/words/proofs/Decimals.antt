-- Decimal digits: the number that they spell, and that a number has one decimal spelling.
use Rattle.std.specs.{Char.{digit_value, is_ascii_digit}, Fmt.decimal, Int.IsInRange, List.list_all, Result.{OkIff, result_ok}}
use Rattle.std.{specs.Str.Parse.digits_value, proofs.Common.{[], ℕ, ◌&&◌, ◌*◌, ◌+◌, ◌-◌, ◌<◌, ◌==◌, ◌^◌, ◌∙◌, ◌∷◌, ◌≡◌, ◌≤◌, Bool, Err}}
use Rattle.std.proofs.Common.{List, None, Ok, Option, Result, Some, ap, arith, cond, false, get_or, length, lit<, lt-ltb, ltb-true, nat_lt}
use Rattle.std.proofs.{Common.{not, refl, rules, subst, suc, sym, take, true, zero}, lemmas.Bool.{and_from, and_parts, cond-true}}
use Rattle.std.proofs.lemmas.{Bool.{cond_both, ne_eqb, Decides.nat_tests}, Fmt.{decimal-digits_value, decimal_digit, decimal_nonempty}}
use Rattle.std.proofs.lemmas.{Fmt.{digits_decimal, digits_value-decimal, first_decimal}, Int.Digits.digits_value_more, List.take_all}
use Rattle.std.proofs.lemmas.{List.Folds.{list_all_at, list_all_more}, Option.{cond_some, none-some}, Str.digit_value_digit}
use Rattle.std.proofs.lemmas.Str.Parse.{IsNumeralModel, digits_value-take-le, numerals_by_value}
use Rattle.words.specs.Number.{below_limit, dec_of, has_no_leading_zero, is_decimal}

-- the test of decimal digits and the value of digits are those of `parse`
pub own : IsNumeralModel (λ ds. list_all is_ascii_digit ds ≡ true) (digits_value 10)
own = numerals_by_value _ (search rules)

-- the test for no leading zero: there is a digit, and a first digit 0 is the only one
pub leading : (ds : List ℕ) → has_no_leading_zero ds ≡ true → (0 < length ds) × (get_or ds 0 0 ≡ 48 → length ds ≡ 1)
leading [] h = cc
leading (d ∷ []) h = (omega arith, λ _. refl)
leading (d ∷ e ∷ ds) h = (omega arith, λ zero. cc (ap (λ x. not (x == 48)) zero))

pub in_range : (b : ℕ) → is_ascii_digit b ≡ true → IsInRange 48 57 b
in_range b test = grind (arith, nat_tests)

-- a word that isn't decimal spells no number
pub not_decimal : (word : List ℕ) → is_decimal word ≡ false → dec_of word ≡ None
unfolding dec_of
not_decimal word h = ap (λ t. cond t (below_limit (digits_value 10 word)) None) h

-- a number below the limit passes the test of the limit
pub limited : (n : ℕ) → n < 2 ^ 64 → below_limit n ≡ Some n
limited n h = cond-true _ _ _ (lt-ltb n (2 ^ 64) h)

pub by_result : {E : Type 0} (word : List ℕ) (n : ℕ) (r : Result ℕ E) → 0 < length word
    → OkIff r ((0 < length word) × (n < 2 ^ 64)) n → result_ok r ≡ below_limit n
by_result word n (Ok m) full h = ap (λ k. Some k) h.1 ∙ sym (limited n h.0.1)
by_result word n (Err e) full refused =
    cond_both (nat_lt n (2 ^ 64)) (Some n) None (λ o. None ≡ o) (λ below. absurd (refused (full, ltb-true _ _ below))) (λ _. refl)

pub some_then : (b : Bool) (o : Option ℕ) (n : ℕ) → cond b o None ≡ Some n → (b ≡ true) × (o ≡ Some n)
some_then true o n h = (refl, h)
some_then false o n h = absurd (none-some n h)

-- a word that spells a number is the number's decimal text
pub dec_takes : (word : List ℕ) (n : ℕ) → dec_of word ≡ Some n → (word ≡ decimal n) × (n < 2 ^ 64)
unfolding dec_of
dec_takes word n h =
    let spelled = some_then (is_decimal word) _ n h in
    let small = cond_some _ _ _ spelled.1 in
    let below = ltb-true _ _ small.0 in
    let test = and_parts _ _ spelled.0 in
    let first = leading word test.0 in (
      sym (decimal-digits_value own word test.1 first.0 first.1 below) ∙ ap (λ m. decimal m) small.1,
      subst (λ m. m < 2 ^ 64) small.1 below,
    )

pub not_zero_first : (ds : List ℕ) → 0 < length ds → 48 < get_or ds 0 0 → has_no_leading_zero ds ≡ true
not_zero_first [] full first = absurd (omega (arith, full))
not_zero_first (d ∷ []) full first = refl
not_zero_first (d ∷ e ∷ ds) full first = ap (λ t. not t) (ne_eqb d 48 (omega (arith, first)))

no_leading_zero-decimal : (n : ℕ) → n < 2 ^ 64 → has_no_leading_zero (decimal n) ≡ true
no_leading_zero-decimal zero h = ap (λ ds. has_no_leading_zero ds) (decimal_digit 0 (lit< tt))
no_leading_zero-decimal (suc n) h = not_zero_first _ (decimal_nonempty (suc n) h) (first_decimal (suc n) (omega arith) h)

-- a number's decimal text spells it
pub dec_again : (n : ℕ) → n < 2 ^ 64 → dec_of (decimal n) ≡ Some n
unfolding dec_of
dec_again n h =
    let test = and_from _ _ (no_leading_zero-decimal n h) (digits_decimal own n h) in
    cond-true _ _ _ test ∙ ap (λ m. below_limit m) (digits_value-decimal own n h) ∙ limited n h

-- words are read digit by digit: the number so far is that of the digits so far

-- a word without a digit, or with a zero before other digits, spells no number
pub zero_first : (word : List ℕ) → has_no_leading_zero word ≡ false → dec_of word ≡ None
zero_first word h = not_decimal word (ap (λ t. t && list_all is_ascii_digit word) h)

-- a word with a byte that is no digit spells no number
pub stray : (word : List ℕ) (i : ℕ) → i < length word → is_ascii_digit (get_or word i 0) ≡ false → dec_of word ≡ None
stray word i within other =
    not_decimal word
    (ap (λ t. has_no_leading_zero word && t) (list_all_at is_ascii_digit word i 0 within other) ∙ and_false (has_no_leading_zero word))
  where
    and_false : (t : Bool) → (t && false) ≡ false
    and_false true = refl
    and_false false = refl

next_value : (word : List ℕ) (i n digit : ℕ) → i < length word → n ≡ digits_value 10 (take i word)
    → is_ascii_digit (get_or word i 0) ≡ true → digit ≡ get_or word i 0 - 48
    → n * 10 + digit ≡ digits_value 10 (take (i + 1) word)
next_value word i n digit within value test is =
    let more = digits_value_more 10 word i within in
    let one = digit_value_digit (get_or word i 0) (in_range _ test) in
    let spelled : digit_value (get_or word i 0) ≡ digit = omega (arith, one, is) in
    sym (more ∙ ap (λ d. digits_value 10 (take i word) * 10 + d) spelled ∙ ap (λ v. v * 10 + digit) (sym value))

-- a number above the limit stays above it with more digits
pub over : (word : List ℕ) (i n digit : ℕ) → i < length word → n ≡ digits_value 10 (take i word)
    → is_ascii_digit (get_or word i 0) ≡ true → digit ≡ get_or word i 0 - 48 → below_limit (n * 10 + digit) ≡ None
    → dec_of word ≡ None
unfolding dec_of
over word i n digit within value test is past =
    let most = digits_value-take-le 10 word (i + 1) (omega arith) in
    let next = next_value word i n digit within value test is in
    by_test (is_decimal word) (past_limit _ _ (omega (arith, most, next)) past)
  where
    past_limit : (a b : ℕ) → a ≤ b → below_limit a ≡ None → below_limit b ≡ None
    past_limit a b le none =
        cond_both (nat_lt b (2 ^ 64)) (Some b) None (λ o. o ≡ None)
        (λ below. absurd (none-some a (sym none ∙ limited a (omega (arith, ltb-true _ _ below, le))))) (λ _. refl)

    by_test : (t : Bool) → below_limit (digits_value 10 word) ≡ None → cond t (below_limit (digits_value 10 word)) None ≡ None
    by_test true none = none
    by_test false none = refl

-- the number with one digit more
pub digit_more : (word : List ℕ) (i n digit m : ℕ) → i < length word → n ≡ digits_value 10 (take i word)
    → is_ascii_digit (get_or word i 0) ≡ true → digit ≡ get_or word i 0 - 48 → Some m ≡ below_limit (n * 10 + digit)
    → m ≡ digits_value 10 (take (i + 1) word)
digit_more word i n digit m within value test is some =
    sym (cond_some _ _ _ (sym some)).1 ∙ next_value word i n digit within value test is

pub small_more : (n m : ℕ) → Some m ≡ below_limit n → m < 2 ^ 64
small_more n m some =
    let small = cond_some _ _ _ (sym some) in
    subst (λ k. k < 2 ^ 64) small.1 (ltb-true _ _ small.0)

pub digits_more : (word : List ℕ) (i : ℕ) → i < length word → list_all is_ascii_digit (take i word) ≡ true
    → is_ascii_digit (get_or word i 0) ≡ true → list_all is_ascii_digit (take (i + 1) word) ≡ true
digits_more word i within all test = list_all_more is_ascii_digit word i 0 within ∙ and_from _ _ all test

-- a word whose digits were all read spells the number read
pub read : (word : List ℕ) (i n : ℕ) → length word ≤ i → n < 2 ^ 64 → has_no_leading_zero word ≡ true
    → n ≡ digits_value 10 (take i word) → list_all is_ascii_digit (take i word) ≡ true → Some n ≡ dec_of word
unfolding dec_of
read word i n whole small first value all =
    let same = take_all i word whole in
    let is : n ≡ digits_value 10 word = value ∙ ap (λ ds. digits_value 10 ds) same in
    let test = and_from _ _ first (ap (λ ds. list_all is_ascii_digit ds) (sym same) ∙ all) in
    sym (cond-true _ _ _ test ∙ ap (λ m. below_limit m) (sym is) ∙ limited n small)
