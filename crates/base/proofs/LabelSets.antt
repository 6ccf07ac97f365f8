-- Sets of labels, bit by bit.
use Rattle.std.{specs.Int.{bit_at, trailing_zeros}, proofs.Common.{ℕ, ◌%◌, ◌&&◌, ◌*◌, ◌-◌, ◌<◌, ◌==◌, ◌^◌, ◌||◌, ◌∙◌, ◌≡◌, ◌≢◌, ◌≤◌, ◌⊎◌}}
use Rattle.std.proofs.Common.{ap, arith, bit_and, bit_or, false, inl, inr, max, min, not, refl, suc, sym, true, w64, zero}
use Rattle.std.proofs.lemmas.{Bool.{cases_eq, cases_lt, eq-eqb, ne_eqb}, Nat.{one_shl, Bits.{bit_at-lt, bit_at-pow_other, bit_at-pow_same}}}
use Rattle.std.proofs.lemmas.Nat.Bits.{bit_at-trailing_zeros, bit_at-zero, bit_at_above, bit_at_and, bit_at_not, bit_at_or}

-- a bit is 0 or 1

both : (x y : ℕ) → x < 2 → y < 2 → (min x y == 1) ≡ ((x == 1) && (y == 1))
both zero zero a b = refl
both zero (suc zero) a b = refl
both (suc zero) zero a b = refl
both (suc zero) (suc zero) a b = refl
both (suc (suc x)) y a b = absurd (omega (arith, a))
both x (suc (suc y)) a b = absurd (omega (arith, b))

either : (x y : ℕ) → x < 2 → y < 2 → (max x y == 1) ≡ ((x == 1) || (y == 1))
either zero zero a b = refl
either zero (suc zero) a b = refl
either (suc zero) zero a b = refl
either (suc zero) (suc zero) a b = refl
either (suc (suc x)) y a b = absurd (omega (arith, a))
either x (suc (suc y)) a b = absurd (omega (arith, b))

pub in_both : (a b label : ℕ) → (bit_at (bit_and a b) label == 1) ≡ ((bit_at a label == 1) && (bit_at b label == 1))
in_both a b label = ap (λ n. n == 1) (bit_at_and a b label) ∙ both (bit_at a label) (bit_at b label) (bit_at-lt a label) (bit_at-lt b label)

pub in_either : (a b label : ℕ) → (bit_at (bit_or a b) label == 1) ≡ ((bit_at a label == 1) || (bit_at b label == 1))
in_either a b label = ap (λ n. n == 1) (bit_at_or a b label) ∙ either (bit_at a label) (bit_at b label) (bit_at-lt a label) (bit_at-lt b label)

flipped : (x y : ℕ) → x < 2 → y < 2 → (min x (1 - y) == 1) ≡ ((x == 1) && not (y == 1))
flipped zero zero a b = refl
flipped zero (suc zero) a b = refl
flipped (suc zero) zero a b = refl
flipped (suc zero) (suc zero) a b = refl
flipped (suc (suc x)) y a b = absurd (omega (arith, a))
flipped x (suc (suc y)) a b = absurd (omega (arith, b))

least_of_none : (x : ℕ) → min 0 x ≡ 0
least_of_none x = omega arith

-- of a word of 64 bits: what the one word has and the other lacks
pub in_first_alone :
    (a b label : ℕ) → a < 2 ^ 64 → b < 2 ^ 64
    → (bit_at (bit_and a (2 ^ 64 - 1 - b)) label == 1) ≡ ((bit_at a label == 1) && not (bit_at b label == 1))
in_first_alone a b label fits below = by (cases_lt label 64) where
  by : (label < 64) ⊎ (64 ≤ label) → (bit_at (bit_and a (2 ^ 64 - 1 - b)) label == 1) ≡ ((bit_at a label == 1) && not (bit_at b label == 1))
  by (inl within) =
      ap (λ n. n == 1) (bit_at_and a (2 ^ 64 - 1 - b) label ∙ ap (min (bit_at a label)) (bit_at_not w64 b label below within))
      ∙ flipped (bit_at a label) (bit_at b label) (bit_at-lt a label) (bit_at-lt b label)
  by (inr above) =
      let none = bit_at_above a 64 label fits above in
      ap (λ n. n == 1) (bit_at_and a (2 ^ 64 - 1 - b) label ∙ ap (λ n. min n (bit_at (2 ^ 64 - 1 - b) label)) none ∙ least_of_none (bit_at (2 ^ 64 - 1 - b) label))
      ∙ sym (ap (λ n. (n == 1) && not (bit_at b label == 1)) none)

-- one label
pub in_only : (label other : ℕ) → label < 64 → (bit_at (1 * 2 ^ label % 2 ^ 64) other == 1) ≡ (other == label)
in_only label other below = by (cases_eq other label) where
  one : 1 * 2 ^ label % 2 ^ 64 ≡ 2 ^ label
  one = one_shl label 64 below

  by : (other ≡ label) ⊎ (other ≢ label) → (bit_at (1 * 2 ^ label % 2 ^ 64) other == 1) ≡ (other == label)
  by (inl same) = ap (λ n. bit_at n other == 1) one ∙ ap (λ n. n == 1) (ap (λ k. bit_at (2 ^ k) other) (sym same) ∙ bit_at-pow_same other) ∙ sym (eq-eqb other label same)
  by (inr apart) = ap (λ n. bit_at n other == 1) one ∙ ap (λ n. n == 1) (bit_at-pow_other label other apart) ∙ sym (ne_eqb other label apart)

-- the lowest bit is the least label
pub least_label :
    (word : ℕ) → 0 < word → word < 2 ^ 64
    → (trailing_zeros w64 word < 64) × ((bit_at word (trailing_zeros w64 word) == 1) ≡ true)
    × ((label : ℕ) → label < trailing_zeros w64 word → (bit_at word label == 1) ≡ false)
least_label word some fits =
    let lowest = bit_at-trailing_zeros w64 word some fits in
    (lowest.0, ap (λ n. n == 1) lowest.1, λ label below. ap (λ n. n == 1) (lowest.2 label below))

pub no_label : (label : ℕ) → (bit_at 0 label == 1) ≡ false
no_label label = ap (λ n. n == 1) (bit_at-zero label)
