-- The least label of a set, which comes first in the list of its labels.
use Rattle.std.specs.{List.{filter, range_with_len}, Prelude.not}
use Rattle.std.proofs.Common.{[], ℕ, ◌&&◌, ◌+◌, ◌<◌, ◌==◌, ◌∷◌, ◌≡◌, Bool, arith, false, refl, suc, true, zero}
use Rattle.{std.proofs.lemmas.Bool.Decides.nat_tests, base.specs.{declared.labels.Labels.Labels, Labels.{is_in, members_of}}}
use Rattle.base.specs.declared.label.TheConstants.Label as Label

-- the list of the numbers that pass a test is empty if none does
none_pass : (p : ℕ → Bool) → ((l : ℕ) → p l ≡ false) → (k n : ℕ) → filter p (range_with_len k n) ≡ []
none_pass p none k zero = refl
none_pass p none k (suc n) = rw (none k) (none_pass p none (k + 1) n)

module _ (p rest : ℕ → Bool) (least : ℕ) (others : (l : ℕ) → rest l ≡ (p l && not (l == least))) where
  -- behind the least number the tests agree
  behind : (k : ℕ) → least < k → (n : ℕ) → filter p (range_with_len k n) ≡ filter rest (range_with_len k n)
  behind k below zero = refl
  behind k below (suc n) =
      let same : rest k ≡ p k = grind (arith, nat_tests, others k) in
      rw (same, behind (k + 1) (omega (arith, below)) n) refl

  -- the least number is the first of the list
  least_first : p least ≡ true → ((l : ℕ) → l < least → p l ≡ false) → (d k n : ℕ) → k + d ≡ least → d < n
      → filter p (range_with_len k n) ≡ least ∷ filter rest (range_with_len k n)
  least_first is none d k zero there few = absurd (omega (arith, few))
  least_first is none zero k (suc n) there few =
      let same : k ≡ least = omega (arith, there) in
      let here : p k ≡ true = rw same is in
      let gone : rest k ≡ false = grind (arith, nat_tests, others k, same) in
      rw (here, gone, behind (k + 1) (omega (arith, same)) n) (grind (arith, same))
  least_first is none (suc d) k (suc n) there few =
      let below : k < least = omega (arith, there) in
      let here : p k ≡ false = none k below in
      let gone : rest k ≡ false = grind (arith, others k, here) in
      rw (here, gone) (least_first is none d (k + 1) n (omega (arith, there)) (omega (arith, few)))

pub no_member : (labels : Labels) → ((l : ℕ) → is_in labels l ≡ false) → members_of labels ≡ []
unfolding members_of
no_member labels none = none_pass (is_in labels) none 0 Label.COUNT

pub least_member : (labels rest : Labels) (least : ℕ) → least < Label.COUNT → is_in labels least ≡ true
    → ((l : ℕ) → l < least → is_in labels l ≡ false) → ((l : ℕ) → is_in rest l ≡ (is_in labels l && not (l == least)))
    → members_of labels ≡ least ∷ members_of rest
unfolding members_of
least_member labels rest least few is none others =
    least_first (is_in labels) (is_in rest) least others is none least 0 Label.COUNT (omega arith) few
