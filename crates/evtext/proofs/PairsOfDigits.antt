-- The decimal digits of a number, of which the last two are put together.
use Rattle.std.{specs.Fmt.decimal, proofs.Common.{[], ℕ, ◌%◌, ◌++◌, ◌+◌, ◌/◌, ◌<◌, ◌^◌, ◌∙◌, ◌∷◌, ◌≡◌, ◌≤◌, List, ap, append_assoc, arith}}
use Rattle.std.proofs.{Common.length, lemmas.{Fmt.{decimal_digit, decimal_step}, List.length-append}}

-- the last two digits
abbrev pub pair : ℕ → List ℕ
pair n = (48 + n % 100 / 10) ∷ (48 + n % 100 % 10) ∷ []

last_two : (n : ℕ) (text : List ℕ) → (text ++ (48 + n / 10 % 10) ∷ []) ++ (48 + n % 10) ∷ [] ≡ text ++ pair n
last_two n text =
    append_assoc text ((48 + n / 10 % 10) ∷ []) _
    ∙ ap (λ d. text ++ (48 + d) ∷ (48 + n % 10) ∷ []) (omega arith)
    ∙ ap (λ d. text ++ (48 + n % 100 / 10) ∷ (48 + d) ∷ []) (omega arith)

pub many : (n : ℕ) → 100 ≤ n → n < 2 ^ 64 → decimal n ≡ decimal (n / 100) ++ pair n
many n more small =
    decimal_step n (omega (arith, more)) small
    ∙ ap (λ ds. ds ++ (48 + n % 10) ∷ []) (decimal_step (n / 10) (omega (arith, more)) (omega (arith, small)))
    ∙ ap (λ k. (decimal k ++ (48 + n / 10 % 10) ∷ []) ++ (48 + n % 10) ∷ []) (omega arith)
    ∙ last_two n (decimal (n / 100))

pub two : (n : ℕ) → 10 ≤ n → n < 100 → decimal n ≡ pair n
two n more few =
    decimal_step n more (omega (arith, few))
    ∙ ap (λ ds. ds ++ (48 + n % 10) ∷ []) (decimal_digit (n / 10) (omega (arith, few)))
    ∙ ap (λ d. (48 + d) ∷ (48 + n % 10) ∷ []) (omega (arith, few))
    ∙ ap (λ d. (48 + n % 100 / 10) ∷ (48 + d) ∷ []) (omega arith)

-- two digits are put, one after the other
pub joined : (text front : List ℕ) (a b : ℕ) → ((text ++ front) ++ a ∷ []) ++ b ∷ [] ≡ text ++ (front ++ a ∷ b ∷ [])
joined text front a b = append_assoc (text ++ front) (a ∷ []) (b ∷ []) ∙ append_assoc text front (a ∷ b ∷ [])

pub many_length : (n : ℕ) → 100 ≤ n → n < 2 ^ 64 → length (decimal n) ≡ length (decimal (n / 100)) + 2
many_length n more small = ap length (many n more small) ∙ length-append (decimal (n / 100)) (pair n)

pub two_length : (n : ℕ) → 10 ≤ n → n < 100 → length (decimal n) ≡ 2
two_length n more few = ap length (two n more few)

pub one_length : (n : ℕ) → n < 10 → length (decimal n) ≡ 1
one_length n few = ap length (decimal_digit n few)
