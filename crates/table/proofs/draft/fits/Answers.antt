-- That a value is below `2^size` if its bits above the guard's size are zero.
use Rattle.std.proofs.Common.{ℕ, ◌&&◌, ◌*◌, ◌+◌, ◌/◌, ◌<◌, ◌^◌, ◌↔◌, ◌∙◌, ◌≡◌, ◌≤◌, ◌⊎◌, ap, arith, inl, inr, nat_eq, nat_lt, sym}
use Rattle.std.proofs.{Math.Nat.div-lt_iff_lt-mul, lemmas.{Bool.{cases_lt, eq-eqb, le-leb, le-ltb, lt-ltb, ne_eqb}, Nat.pow_pos}}
use Rattle.table.proofs.draft.fits.Goals as goal

shifted_out : (value power : ℕ) → 0 < power → nat_eq (value / power) 0 ≡ nat_lt value power
shifted_out value power pos = by (cases_lt value power) where
  below : (value / power < 1) ↔ (value < 1 * power)
  below = div-lt_iff_lt-mul {k = power} {x = value} {y = 1} pos

  by : (value < power) ⊎ (power ≤ value) → nat_eq (value / power) 0 ≡ nat_lt value power
  by (inl less) =
      let none : value / power < 1 = below.1 (omega arith) in
      eq-eqb (value / power) 0 (omega arith) ∙ sym (lt-ltb value power less)
  by (inr most) =
      ne_eqb (value / power) 0 (λ none. let less : value < 1 * power = below.0 (omega arith) in omega arith)
      ∙ sym (le-ltb value power most)

pub returns-then-guard-bits : goal.returns-then-guard-bits
returns-then-guard-bits c =
    let guard = c.in-CNode-CNode.guard in
    let radix = c.bits.ensures.value in
    let most = c.bits.ensures.most in
    let size : guard.size + c.in-CNode-CNode.node.radix ≤ 64 = omega arith in
    rw (c.in-CNode-CNode.is-0, c.in-CNode-CNode.is-1)
    (shifted_out guard.value (2 ^ guard.size) (pow_pos guard.size)
    ∙ sym (ap (λ b. b && nat_lt guard.value (2 ^ guard.size)) (le-leb (guard.size + c.in-CNode-CNode.node.radix) 64 size)))
