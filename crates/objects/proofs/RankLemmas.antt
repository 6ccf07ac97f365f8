-- Ranks after one of the numbers below a bound has been put last among them.
use Rattle.std.{specs.Prelude.{◌&&◌, ◌==◌, nat_lt}, proofs.Common.{ℕ, ◌-◌, ◌<◌, ◌≡◌, ◌≢◌, ◌≤◌, arith, cond}}
use Rattle.std.proofs.lemmas.Bool.Decides.{nat_tests}

-- the rank of x when r, which is below n, is put last
abbrev pub moved : ℕ → ℕ → ℕ → ℕ
moved r n x = cond (x == r) (n - 1) (cond (nat_lt r x && nat_lt x n) (x - 1) x)

module _ (r n : ℕ) (below : r < n) where
  pub moved_one_each : (x y : ℕ) → moved r n x ≡ moved r n y → x ≡ y
  moved_one_each x y same = grind (arith, nat_tests)

  pub moved_below : (x : ℕ) → x < n → moved r n x < n
  moved_below x within = grind (arith, nat_tests)

  pub moved_beyond : (x : ℕ) → n ≤ x → moved r n x ≡ x
  moved_beyond x beyond = grind (arith, nat_tests)

  pub moved_later : (x y : ℕ) → x ≢ r → y ≢ r → x < y → moved r n x < moved r n y
  moved_later x y apart differs less = grind (arith, nat_tests)

  pub moved_last : (x : ℕ) → x ≢ r → x < n → moved r n x < moved r n r
  moved_last x apart within = grind (arith, nat_tests)
