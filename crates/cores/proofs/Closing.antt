-- A list that is gone through from its beginning, each element changed in turn.
use Rattle.std.proofs.Common.{ℕ, ◌+◌, ◌<◌, ◌∙◌, ◌≡◌, ◌≤◌, List, arith, inl, inr, length, slice_index_or, slice_set, subst, sym}
use Rattle.std.proofs.lemmas.{Bool.cases_order, List.{get_or-set_other, get_or-set_same}}

-- a relation that holds of all elements before this one, and now of this one, holds of all up to it
pub done_further :
    {A : Type 0} (P : A → A → Type 0) (first now : List A) (n : ℕ) (new : A) → n < length now
    → ((i : ℕ) (d : A) → i < n → P (slice_index_or first i d) (slice_index_or now i d))
    → ((d : A) → P (slice_index_or first n d) new)
    → (i : ℕ) (d : A) → i < n + 1 → P (slice_index_or first i d) (slice_index_or (slice_set now n new) i d)
done_further P first now n new inside done here i d below = elim (cases_order i n) [
  | inl same ↦ subst (λ k. P (slice_index_or first k d) (slice_index_or (slice_set now n new) k d)) (sym same)
      (subst (P (slice_index_or first n d)) (sym (get_or-set_same now n new d inside)) (here d))
  | inr (inl before) ↦ subst (P (slice_index_or first i d)) (sym (get_or-set_other now n i new d (λ e. omega (arith, before, e)))) (done i d before)
  | inr (inr after) ↦ absurd (omega (arith, after, below))
]

-- and the others are as they were
pub left_further :
    {A : Type 0} (first now : List A) (n : ℕ) (new : A)
    → ((i : ℕ) (d : A) → n ≤ i → slice_index_or now i d ≡ slice_index_or first i d)
    → (i : ℕ) (d : A) → n + 1 ≤ i → slice_index_or (slice_set now n new) i d ≡ slice_index_or first i d
left_further first now n new left i d beyond = get_or-set_other now n i new d (λ e. omega (arith, beyond, e)) ∙ left i d (omega (arith, beyond))
