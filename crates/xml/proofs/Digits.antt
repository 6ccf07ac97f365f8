-- How the digits of a number are read one after another.
use Rattle.std.{specs.{Char.{digit_value, is_digit}, List.list_all, Str.Parse.{digits_value, digits_value_after}}, proofs.Common.{[], ℕ}}
use Rattle.std.proofs.Common.{◌&&◌, ◌*◌, ◌+◌, ◌<◌, ◌∙◌, ◌∷◌, ◌≡◌, ◌≤◌, Bool, List, None, Some, add-one, ap, arith, cond, drop, drop-cons}
use Rattle.std.proofs.{Common.{false, get_or, length, refl, sym, true}, Math.Nat.mul-le-mul_left, lemmas.List.drop_all}
use Rattle.xml.specs.{Characters.is_printable, Value.code_of}

-- the digits, and the number that all spell, when so many were read and spelled a number
pub record Reads (base number : ℕ) (digits : List ℕ) (i : ℕ) : Type 0 where
  pub all : list_all (λ b. is_digit b base) (drop i digits) ≡ list_all (λ b. is_digit b base) digits
  pub value : digits_value_after base number (drop i digits) ≡ digits_value base digits

-- a digit more
pub digit_more : (base number : ℕ) (digits : List ℕ) (i digit : ℕ) → i < length digits → Reads base number digits i
    → is_digit (get_or digits i 0) base ≡ true → digit ≡ digit_value (get_or digits i 0)
    → Reads base (number * base + digit) digits (i + 1)
digit_more base number digits i digit below reads passes same =
    let first : drop i digits ≡ get_or digits i 0 ∷ drop (i + 1) digits = rw add-one (drop-cons digits i 0 below) in
    let all : (is_digit (get_or digits i 0) base && list_all (λ b. is_digit b base) (drop (i + 1) digits))
    ≡ list_all (λ b. is_digit b base) digits = ap (list_all (λ b. is_digit b base)) (sym first) ∙ reads.all in
    let value : digits_value_after base (number * base + digit_value (get_or digits i 0)) (drop (i + 1) digits)
    ≡ digits_value base digits = ap (digits_value_after base number) (sym first) ∙ reads.value in
    record {
      all = sym (ap (λ t. t && list_all (λ b. is_digit b base) (drop (i + 1) digits)) passes) ∙ all;
      value = ap (λ d. digits_value_after base (number * base + d) (drop (i + 1) digits)) same ∙ value;
    }

-- the code of digits that are none, or not printable
code_none : (base : ℕ) (digits : List ℕ) (a b : Bool) → list_all (λ d. is_digit d base) digits ≡ a
    → is_printable (digits_value base digits) ≡ b → (a && b) ≡ false → code_of base digits ≡ None
unfolding code_of
code_none base digits a b all printable none =
    ap (λ t. cond t (Some (digits_value base digits)) None)
    (ap (λ t. t && is_printable (digits_value base digits)) all ∙ ap (λ t. a && t) printable ∙ none)

and_false : (a : Bool) → (a && false) ≡ false
and_false true = refl
and_false false = refl

-- a byte that is no digit
pub stray : (base number : ℕ) (digits : List ℕ) (i : ℕ) → i < length digits → Reads base number digits i
    → is_digit (get_or digits i 0) base ≡ false → code_of base digits ≡ None
stray base number digits i below reads fails =
    let first : drop i digits ≡ get_or digits i 0 ∷ drop (i + 1) digits = rw add-one (drop-cons digits i 0 below) in
    let all : list_all (λ b. is_digit b base) digits ≡ false =
    sym reads.all ∙ ap (list_all (λ b. is_digit b base)) first
    ∙ ap (λ t. t && list_all (λ b. is_digit b base) (drop (i + 1) digits)) fails in
    code_none base digits false _ all refl refl

-- a number only grows by further digits
grows : (base number : ℕ) (digits : List ℕ) → 1 ≤ base → number ≤ digits_value_after base number digits
grows base number [] low = omega arith
grows base number (b ∷ bs) low =
    omega (arith, grows base (number * base + digit_value b) bs low, mul-le-mul_left number low)

not_printable : (n : ℕ) → 126 < n → is_printable n ≡ false
not_printable n high = grind arith

-- a number that is too large already
pub over : (base number : ℕ) (digits : List ℕ) (i : ℕ) → 1 ≤ base → Reads base number digits i → 126 < number
    → code_of base digits ≡ None
over base number digits i low reads high =
    let more : 126 < digits_value base digits = omega (arith, grows base number (drop i digits) low, reads.value) in
    code_none base digits _ false refl (not_printable _ more) (and_false _)

-- all digits were read
pub spelled : (base number : ℕ) (digits : List ℕ) (i : ℕ) → length digits ≤ i → Reads base number digits i
    → code_of base digits ≡ cond (is_printable number) (Some number) None
unfolding code_of
spelled base number digits i past reads =
    let none : drop i digits ≡ [] = drop_all i digits past in
    let all : list_all (λ b. is_digit b base) digits ≡ true = sym reads.all ∙ ap (list_all (λ b. is_digit b base)) none in
    let value : digits_value base digits ≡ number = sym reads.value ∙ ap (digits_value_after base number) none in
    ap (λ t. cond (t && is_printable (digits_value base digits)) (Some (digits_value base digits)) None) all
    ∙ ap (λ n. cond (is_printable n) (Some n) None) value
