-- Lists that grow at their end: what stays in its place, and what holds of all elements and the new one.
use Rattle.std.{specs.List.list_any, proofs.Common.{[], ℕ, ◌++◌, ◌-◌, ◌<◌, ◌∙◌, ◌∷◌, ◌≡◌, ◌≤◌, ◌⊎◌, All, AllPairs, Bool, List, Some, arith}}
use Rattle.std.proofs.{Common.{false, get_or, inl, inr, length, slice_get, subst, suc, sym, zero}, lemmas.Bool.cases_lt}
use Rattle.std.proofs.lemmas.{Bool.{false_from_ne_true, false≢true}, List.{get_or_past, Folds.list_any_at}, Option.none-some}
use Rattle.std.proofs.lemmas.Option.{slice_get-get_or}

pub not_any :
    {X : Type 0} (p : X → Bool) (xs : List X) → list_any p xs ≡ false → (k : ℕ) (d : X) → k < length xs
    → p (get_or xs k d) ≡ false
not_any p xs none k d within =
    false_from_ne_true (p (get_or xs k d)) (λ hit. false≢true (sym none ∙ list_any_at p xs k d within hit))

pub slice_get-append_left :
    {X : Type 0} (xs ys : List X) (i : ℕ) (x : X) → slice_get xs i ≡ Some x → slice_get (xs ++ ys) i ≡ Some x
slice_get-append_left [] ys i x e = absurd (none-some x e)
slice_get-append_left (y ∷ xs) ys zero x e = e
slice_get-append_left (y ∷ xs) ys (suc i) x e = slice_get-append_left xs ys i x e

pub no_pair : {P : Type 0} (i j : ℕ) → i < j → j < 0 → P
no_pair i j lower within = absurd (omega arith)

-- a fact of the last element of a rising list holds of all, if it passes from each element to those below it
pub all_from_last : {X : Type 0} (R : X → X → Type 0) (P : X → Type 0) → ((x y : X) → R x y → P y → P x) → (xs : List X)
    → AllPairs R xs → ((x : X) → slice_get xs (length xs - 1) ≡ Some x → P x) → All P xs
all_from_last R P down xs rising last k d within = by (cases_lt k (length xs - 1)) where
  at_last : length xs - 1 < length xs → P (get_or xs (length xs - 1) d)
  at_last lt = last (get_or xs (length xs - 1) d) (slice_get-get_or xs (length xs - 1) d lt)

  by : (k < length xs - 1) ⊎ (length xs - 1 ≤ k) → P (get_or xs k d)
  by (inl lower) = let lt : length xs - 1 < length xs = omega arith in down _ _ (rising k (length xs - 1) d lower lt) (at_last lt)
  by (inr upper) = let same : length xs - 1 ≡ k = omega arith in subst (λ i. P (get_or xs i d)) same (at_last (omega arith))

-- a list extended by a default value has this value also past its end
pub lengthened : {X : Type 0} (xs ys : List X) (d : X) (n : ℕ) → length ys ≡ n
    → ((k : ℕ) → k < n → k < length xs → get_or ys k d ≡ get_or xs k d) → ((k : ℕ) → length xs ≤ k → k < n → get_or ys k d ≡ d)
    → length xs ≤ n → (k : ℕ) → get_or ys k d ≡ get_or xs k d
lengthened xs ys d n size same new longer k = by (cases_lt k (length xs)) (cases_lt k n) where
  by : (k < length xs) ⊎ (length xs ≤ k) → (k < n) ⊎ (n ≤ k) → get_or ys k d ≡ get_or xs k d
  by (inl old) (inl low) = same k low old
  by (inl old) (inr high) = absurd (omega arith)
  by (inr past) (inl low) = new k past low ∙ sym (get_or_past xs k d past)
  by (inr past) (inr high) = get_or_past ys k d (omega arith) ∙ sym (get_or_past xs k d past)
