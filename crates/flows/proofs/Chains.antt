-- Past which labels a chain of flows goes on.
use Rattle.std.proofs.Common.{ℕ, ◌&&◌, ◌==◌, ◌∙◌, ◌≡◌, Bool, ap, false, inl, inr, not, refl, sym, true}
use Rattle.{std.proofs.lemmas.Bool.{and_parts, eq-eqb, eqb-true, false≢true}, flows.specs.Flowing.{FilterTest, GoesOn}}

pub was_not : (b : Bool) → not b ≡ true → b ≡ false
was_not true is = sym is
was_not false is = refl

pub was : (b : Bool) → not b ≡ false → b ≡ true
was true is = refl
was false is = sym is

module _ (filters : FilterTest) (end : ℕ) where
  -- what is no filter, or the end, doesn't end a chain
  pub passes : (l : ℕ) (b : Bool) → filters l ≡ b → (filters l && not (l == end)) ≡ false → GoesOn filters end l
  passes l false is free = inr is
  passes l true is free = inl (eqb-true l end (was (l == end) (sym (ap (λ b. b && not (l == end)) is) ∙ free)))

  -- another filter does
  pub stopped : (x : ℕ) → (filters x && not (x == end)) ≡ true → GoesOn filters end x → ⊥
  stopped x is (inl same) =
      let parts = and_parts (filters x) (not (x == end)) is in
      false≢true (sym (was_not (x == end) parts.1) ∙ eq-eqb x end same)
  stopped x is (inr free) = false≢true (sym free ∙ (and_parts (filters x) (not (x == end)) is).0)
