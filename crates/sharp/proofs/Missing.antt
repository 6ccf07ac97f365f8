-- Sets of labels that grow: each new label leaves fewer labels missing.
use Rattle.std.proofs.Common.{ℕ, ◌<◌, ◌∙◌, ◌≡◌, ◌≤◌, Bool, ap, arith, cond, false, inl, inr, refl, suc, sym, true, zero}
use Rattle.std.proofs.lemmas.Bool.{cases_order, false≢true}

-- the number of labels below a number that are missing
pub missing_below : (ℕ → Bool) → ℕ → ℕ
missing_below has zero = 0
missing_below has (suc n) = cond (has n) (missing_below has n) (suc (missing_below has n))

module _ (old new : ℕ → Bool) (grows : (a : ℕ) → old a ≡ true → new a ≡ true) where
  at_most : (b c : Bool) → (b ≡ true → c ≡ true) → (x y : ℕ) → x ≤ y → cond c x (suc x) ≤ cond b y (suc y)
  at_most true true then_so x y most = most
  at_most true false then_so x y most = absurd (false≢true (then_so refl))
  at_most false true then_so x y most = omega arith
  at_most false false then_so x y most = omega arith

  no_more : (n : ℕ) → missing_below new n ≤ missing_below old n
  unfolding missing_below
  no_more zero = omega arith
  no_more (suc n) = at_most (old n) (new n) (grows n) (missing_below new n) (missing_below old n) (no_more n)

  less : (b c : Bool) → (b ≡ true → c ≡ true) → (x y : ℕ) → x < y → cond c x (suc x) < cond b y (suc y)
  less true true then_so x y lt = lt
  less true false then_so x y lt = absurd (false≢true (then_so refl))
  less false true then_so x y lt = omega arith
  less false false then_so x y lt = omega arith

  here : (b c : Bool) → b ≡ false → c ≡ true → (x y : ℕ) → x ≤ y → cond c x (suc x) < cond b y (suc y)
  here true c lacks has x y most = absurd (false≢true (sym lacks))
  here false true lacks has x y most = omega arith
  here false false lacks has x y most = absurd (false≢true has)

  -- a missing label is added
  pub fewer_missing : (a : ℕ) → old a ≡ false → new a ≡ true → (n : ℕ) → a < n → missing_below new n < missing_below old n
  unfolding missing_below
  fewer_missing a lacks has zero below = absurd (omega (arith, below))
  fewer_missing a lacks has (suc n) below = elim (cases_order a n) [
    | inl same ↦
        here (old n) (new n) (ap old (sym same) ∙ lacks) (ap new (sym same) ∙ has) (missing_below new n) (missing_below old n) (no_more n)
    | inr (inl before) ↦
        less (old n) (new n) (grows n) (missing_below new n) (missing_below old n) (fewer_missing a lacks has n before)
    | inr (inr after) ↦ absurd (omega (arith, below))
  ]
