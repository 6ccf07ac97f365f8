-- The digits of a number, read one after another.
use Rattle.std.specs.{Char.{digit_value, is_digit}, List.list_all, Prelude.{is_some, nat_lt, not, unwrap_or}, Str.Parse.digits_value_after}
use Rattle.std.proofs.Common.{[], ℕ, ◌&&◌, ◌*◌, ◌+◌, ◌<◌, ◌==◌, ◌^◌, ◌||◌, ◌∙◌, ◌∷◌, ◌≡◌, ◌≢◌, ◌≤◌, Bool, List, None, Option, Some, add-one}
use Rattle.std.proofs.{Common.{ap, arith, cond, drop, drop-cons, false, get_or, length, lt-ltb, refl, sym, true}, Math.Nat.mul-le-mul_left}
use Rattle.std.proofs.lemmas.{Bool.{cond-true, ltb-false, ltb-true}, List.drop_all, Option.{cond_some, none-some}}
use Rattle.{words.specs.Number.below_limit, microkit.specs.Values.{bare, digits_of, is_some_digit}}

-- the number that digits spell behind a number that was read
pub digits_from : ℕ → Option ℕ → List ℕ → Option ℕ
digits_from base number digits =
    cond ((is_some number || is_some_digit digits) && list_all (λ b. is_digit b base) digits)
    (below_limit (digits_value_after base (unwrap_or number 0) digits)) None

-- this many bytes were read, and spelled a number or none
pub record ReadsOn (base : ℕ) (number : Option ℕ) (text : List ℕ) (i : ℕ) : Type 0 where
  pub same : digits_from base number (bare (drop i text)) ≡ digits_of base (bare text)
  pub fits : unwrap_or number 0 < 2 ^ 64

-- all digits are left
pub begins : (base : ℕ) (text : List ℕ) → ReadsOn base None text 0
unfolding digits_from digits_of
begins base text = record { same = refl; fits = omega arith }

-- what is left, of a text that was read so far
from : (text : List ℕ) (i : ℕ) → i < length text → drop i text ≡ get_or text i 0 ∷ drop (i + 1) text
from text i below = rw add-one (drop-cons text i 0 below)

-- `_` is dropped
pub dropped : (base : ℕ) (number : Option ℕ) (text : List ℕ) (i : ℕ) → i < length text → ReadsOn base number text i
    → get_or text i 0 ≡ 95 → ReadsOn base number text (i + 1)
dropped base number text i below reads same =
    record {
      same = sym (ap (λ rest. digits_from base number (bare rest)) (from text i below ∙ ap (λ b. b ∷ drop (i + 1) text) same))
          ∙ reads.same;
      fits = reads.fits;
    }

kept : (b : ℕ) → b ≢ 95 → not (b == 95) ≡ true
kept b other = grind arith

bare_from : (text : List ℕ) (i : ℕ) → i < length text → get_or text i 0 ≢ 95
    → bare (drop i text) ≡ get_or text i 0 ∷ bare (drop (i + 1) text)
bare_from text i below other =
    ap bare (from text i below)
    ∙ ap (λ t. cond t (get_or text i 0 ∷ bare (drop (i + 1) text)) (bare (drop (i + 1) text))) (kept _ other)

-- the first digit, or a further one
first_digit : (base b : ℕ) (number : Option ℕ) (bs : List ℕ) → is_digit b base ≡ true
    → digits_from base number (b ∷ bs) ≡ digits_from base (Some (unwrap_or number 0 * base + digit_value b)) bs
unfolding digits_from
first_digit base b None bs passes =
    ap (λ t. cond (t && list_all (λ d. is_digit d base) bs) (below_limit (digits_value_after base (0 * base + digit_value b) bs)) None) passes
first_digit base b (Some n) bs passes =
    ap (λ t. cond (t && list_all (λ d. is_digit d base) bs) (below_limit (digits_value_after base (n * base + digit_value b) bs)) None) passes

-- one more digit
pub digit_more : (base : ℕ) (number : Option ℕ) (next : ℕ) (text : List ℕ) (i digit : ℕ) → i < length text
    → ReadsOn base number text i → get_or text i 0 ≢ 95 → is_digit (get_or text i 0) base ≡ true
    → digit ≡ digit_value (get_or text i 0) → below_limit (unwrap_or number 0 * base + digit) ≡ Some next
    → ReadsOn base (Some next) text (i + 1)
digit_more base number next text i digit below reads other passes same fits =
    let limit = cond_some _ _ _ fits in
    let step : digits_from base number (bare (drop i text)) ≡ digits_from base (Some next) (bare (drop (i + 1) text)) =
    ap (λ rest. digits_from base number rest) (bare_from text i below other)
    ∙ first_digit base _ number _ passes
    ∙ ap (λ n. digits_from base (Some n) (bare (drop (i + 1) text)))
    (ap (λ d. unwrap_or number 0 * base + d) (sym same) ∙ limit.1) in
    record { same = sym step ∙ reads.same; fits = omega (arith, ltb-true _ _ limit.0, limit.1) }

no_digit : (base : ℕ) (number : Option ℕ) (b : ℕ) (bs : List ℕ) → is_digit b base ≡ false
    → digits_from base number (b ∷ bs) ≡ None
unfolding digits_from
no_digit base None b bs fails =
    ap (λ t. cond (t && list_all (λ d. is_digit d base) bs) (below_limit (digits_value_after base (0 * base + digit_value b) bs)) None) fails
no_digit base (Some n) b bs fails =
    ap (λ t. cond (t && list_all (λ d. is_digit d base) bs) (below_limit (digits_value_after base (n * base + digit_value b) bs)) None) fails

-- a byte that is no digit
pub stray : (base : ℕ) (number : Option ℕ) (text : List ℕ) (i : ℕ) → i < length text → ReadsOn base number text i
    → get_or text i 0 ≢ 95 → is_digit (get_or text i 0) base ≡ false → digits_of base (bare text) ≡ None
stray base number text i below reads other fails =
    sym reads.same ∙ ap (λ rest. digits_from base number rest) (bare_from text i below other) ∙ no_digit base number _ _ fails

-- a number only grows by further digits
grows : (base number : ℕ) (digits : List ℕ) → 1 ≤ base → number ≤ digits_value_after base number digits
grows base number [] low = omega arith
grows base number (b ∷ bs) low =
    omega (arith, grows base (number * base + digit_value b) bs low, mul-le-mul_left number low)

large : (n m : ℕ) → below_limit n ≡ None → n ≤ m → below_limit m ≡ None
large n m e less = cases (nat_lt n (2 ^ 64)) (nat_lt m (2 ^ 64)) refl refl e
  where
    cases : (a b : Bool) → nat_lt n (2 ^ 64) ≡ a → nat_lt m (2 ^ 64) ≡ b → cond a (Some n) None ≡ None
        → cond b (Some m) None ≡ None
    cases a false low high none = refl
    cases false true low high none = absurd (omega (arith, ltb-true _ _ high, ltb-false _ _ low, less))
    cases true true low high none = absurd (none-some _ (sym none))

none_either : (t : Bool) (n : Option ℕ) → n ≡ None → cond t n None ≡ None
none_either true n e = e
none_either false n e = refl

too_large : (base n : ℕ) (digits : List ℕ) → 1 ≤ base → below_limit n ≡ None → digits_from base (Some n) digits ≡ None
unfolding digits_from
too_large base n digits low high = none_either _ _ (large n _ high (grows base n digits low))

-- a number that is already too large
pub over : (base : ℕ) (number : Option ℕ) (text : List ℕ) (i digit : ℕ) → 1 ≤ base → i < length text
    → ReadsOn base number text i → get_or text i 0 ≢ 95 → is_digit (get_or text i 0) base ≡ true
    → digit ≡ digit_value (get_or text i 0) → below_limit (unwrap_or number 0 * base + digit) ≡ None
    → digits_of base (bare text) ≡ None
over base number text i digit low below reads other passes same high =
    sym reads.same ∙ ap (λ rest. digits_from base number rest) (bare_from text i below other)
    ∙ first_digit base _ number _ passes
    ∙ too_large base _ _ low (ap (λ d. below_limit (unwrap_or number 0 * base + d)) (sym same) ∙ high)

none_left : (base : ℕ) (number : Option ℕ) → unwrap_or number 0 < 2 ^ 64 → digits_from base number [] ≡ number
unfolding digits_from
none_left base None fits = refl
none_left base (Some n) fits = cond-true _ _ _ (lt-ltb n (2 ^ 64) fits)

-- all digits were read
pub spelled : (base : ℕ) (number : Option ℕ) (text : List ℕ) (i : ℕ) → length text ≤ i → ReadsOn base number text i
    → digits_of base (bare text) ≡ number
spelled base number text i past reads =
    sym reads.same ∙ ap (λ rest. digits_from base number (bare rest)) (drop_all i text past) ∙ none_left base number reads.fits
