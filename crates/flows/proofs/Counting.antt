-- Numbers of labels that pass a test: of two tests, of a part, and of one label.
use Rattle.std.proofs.Common.{ℕ, ◌+◌, ◌<◌, ◌==◌, ◌||◌, ◌∙◌, ◌≡◌, ◌≤◌, ◌⊎◌, Bool, ap, arith, cond, false, inl, inr, refl, suc, sym, true}
use Rattle.{std.proofs.{Common.zero, lemmas.Bool.{cases_order, eq-eqb, eqb-true, false≢true}}, flows.specs.Sets.count_below}

-- a label passes one of two tests that none passes both
pub count_or : (p q r : ℕ → Bool) → ((l : ℕ) → r l ≡ (p l || q l)) → ((l : ℕ) → p l ≡ true → q l ≡ false) → (n : ℕ)
    → count_below r n ≡ count_below p n + count_below q n
unfolding count_below
count_or p q r is apart zero = refl
count_or p q r is apart (suc n) =
    by (p n) (q n) (r n) (is n) (apart n) (count_below p n) (count_below q n) (count_below r n) (count_or p q r is apart n) where
      by : (b c d : Bool) → d ≡ (b || c) → (b ≡ true → c ≡ false) → (x y z : ℕ) → z ≡ x + y
          → cond d 1 0 + z ≡ (cond b 1 0 + x) + (cond c 1 0 + y)
      by true true d is apart x y z more = absurd (false≢true (sym (apart refl)))
      by true false true is apart x y z more = omega (arith, more)
      by true false false is apart x y z more = absurd (false≢true is)
      by false true true is apart x y z more = omega (arith, more)
      by false true false is apart x y z more = absurd (false≢true is)
      by false false true is apart x y z more = absurd (false≢true (sym is))
      by false false false is apart x y z more = omega (arith, more)

-- none passes if none is counted
pub count_none : (p : ℕ → Bool) (n : ℕ) → count_below p n ≡ 0 → (l : ℕ) → l < n → p l ≡ false
unfolding count_below
count_none p zero none l below = absurd (omega (arith, below))
count_none p (suc n) none l below = by (p n) refl none (cases_order l n) (λ fewer before. count_none p n fewer l before) where
  by : (b : Bool) → p n ≡ b → cond b 1 0 + count_below p n ≡ 0 → (l ≡ n) ⊎ ((l < n) ⊎ (n < l))
      → (count_below p n ≡ 0 → l < n → p l ≡ false) → p l ≡ false
  by true is none order earlier = absurd (omega (arith, none))
  by false is none (inl same) earlier = ap p same ∙ is
  by false is none (inr (inl before)) earlier = earlier (omega (arith, none)) before
  by false is none (inr (inr after)) earlier = absurd (omega (arith, below, after))

module _ (p q : ℕ → Bool) (part : (l : ℕ) → p l ≡ true → q l ≡ true) where
  -- a part has no more labels
  pub count_part : (n : ℕ) → count_below p n ≤ count_below q n
  unfolding count_below
  count_part zero = omega arith
  count_part (suc n) = by (p n) (q n) (part n) (count_below p n) (count_below q n) (count_part n) where
    by : (b c : Bool) → (b ≡ true → c ≡ true) → (x y : ℕ) → x ≤ y → cond b 1 0 + x ≤ cond c 1 0 + y
    by true true then_so x y more = omega (arith, more)
    by true false then_so x y more = absurd (false≢true (then_so refl))
    by false true then_so x y more = omega (arith, more)
    by false false then_so x y more = omega (arith, more)

  -- a part has all labels if it has no fewer
  pub count_whole : (n : ℕ) → count_below q n ≤ count_below p n → (l : ℕ) → l < n → q l ≡ true → p l ≡ true
  unfolding count_below
  count_whole zero no_fewer l below is = absurd (omega (arith, below))
  count_whole (suc n) no_fewer l below is =
      by (p n) (q n) refl refl no_fewer (cases_order l n) (λ least before. count_whole n least l before is) where
        by : (b c : Bool) → p n ≡ b → q n ≡ c → cond c 1 0 + count_below q n ≤ cond b 1 0 + count_below p n
            → (l ≡ n) ⊎ ((l < n) ⊎ (n < l)) → (count_below q n ≤ count_below p n → l < n → p l ≡ true) → p l ≡ true
        by true c p_is q_is no_fewer (inl same) earlier = ap p same ∙ p_is
        by false true p_is q_is no_fewer order earlier = absurd (omega (arith, no_fewer, count_part n))
        by false false p_is q_is no_fewer (inl same) earlier = absurd (false≢true (sym q_is ∙ ap q (sym same) ∙ is))
        by true true p_is q_is no_fewer (inr (inl before)) earlier = earlier (omega (arith, no_fewer)) before
        by true false p_is q_is no_fewer (inr order) earlier = absurd (false≢true (sym q_is ∙ part n p_is))
        by false false p_is q_is no_fewer (inr (inl before)) earlier = earlier (omega (arith, no_fewer)) before
        by true true p_is q_is no_fewer (inr (inr after)) earlier = absurd (omega (arith, below, after))
        by false false p_is q_is no_fewer (inr (inr after)) earlier = absurd (omega (arith, below, after))

-- one label
module _ (p : ℕ → Bool) (a : ℕ) (is : (l : ℕ) → p l ≡ (l == a)) where
  none_under : (k : ℕ) → k ≤ a → count_below p k ≡ 0
  unfolding count_below
  none_under zero most = refl
  none_under (suc k) most = by (p k) refl (none_under k (omega (arith, most))) where
    by : (b : Bool) → p k ≡ b → count_below p k ≡ 0 → cond b 1 0 + count_below p k ≡ 0
    by true has none = absurd (omega (arith, most, eqb-true k a (sym (is k) ∙ has)))
    by false has none = omega (arith, none)

  pub count_only : (n : ℕ) → a < n → count_below p n ≡ 1
  unfolding count_below
  count_only zero below = absurd (omega (arith, below))
  count_only (suc n) below = by (p n) refl (cases_order a n) (count_only n) where
    by : (b : Bool) → p n ≡ b → (a ≡ n) ⊎ ((a < n) ⊎ (n < a)) → (a < n → count_below p n ≡ 1) → cond b 1 0 + count_below p n ≡ 1
    by true has (inl same) earlier = omega (arith, none_under n (omega (arith, same)))
    by false has (inl same) earlier = absurd (false≢true (sym has ∙ is n ∙ eq-eqb n a (sym same)))
    by true has (inr (inl before)) earlier = absurd (omega (arith, before, eqb-true n a (sym (is n) ∙ has)))
    by false has (inr (inl before)) earlier = omega (arith, earlier before)
    by true has (inr (inr after)) earlier = absurd (omega (arith, below, after))
    by false has (inr (inr after)) earlier = absurd (omega (arith, below, after))

-- none is counted if none passes
pub count_nothing : (p : ℕ → Bool) → ((l : ℕ) → p l ≡ false) → (n : ℕ) → count_below p n ≡ 0
unfolding count_below
count_nothing p none zero = refl
count_nothing p none (suc n) = by (p n) (none n) (count_nothing p none n) where
  by : (b : Bool) → b ≡ false → count_below p n ≡ 0 → cond b 1 0 + count_below p n ≡ 0
  by true never more = absurd (false≢true (sym never))
  by false never more = omega (arith, more)
