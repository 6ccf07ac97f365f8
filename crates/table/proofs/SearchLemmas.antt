-- That a binary search over rising keys finds the first element with the key.
use Rattle.std.specs.{declared.cmp.Ordering.{Ordering, TheVariants.{Equal, Greater, Less}}, Cmp.IsTotalOrder, List.{find, slice_get}}
use Rattle.std.specs.{List.Sorted.{IsNonDecreasingBy, IsPartitionPoint, IsSortedBy}, Ordering.{is_eq, is_lt, ordering_index}}
use Rattle.std.{specs.Ordering.ordering_reverse, proofs.Common.{[], ℕ, ◌+◌, ◌-◌, ◌<◌, ◌∙◌, ◌∷◌, ◌≡◌, ◌≤◌, ◌⊎◌, All, AllPairs, Bool, List}}
use Rattle.std.proofs.{Common.{None, Some, ap, arith, cond, false, get_or, inl, inr, length, refl, sym}, lemmas.Bool.cases_lt}
use Rattle.std.proofs.lemmas.{Cmp.alike_right, List.{Elements.{All-head, All-tail}, Folds.find_at, Sorted.searchable_from_sorted}}
use Rattle.std.proofs.lemmas.{List.Sums.position_or_len_is, Option.{get_or_from_slice_get, slice_get-get_or, slice_get_within}}

pub find_none : {X : Type 0} (p : X → Bool) (xs : List X) → All (λ x. p x ≡ false) xs → find p xs ≡ None
find_none p [] all = refl
find_none p (x ∷ xs) all =
    ap (λ b. cond b (Some x) (find p xs)) (All-head (λ y. p y ≡ false) x xs all)
    ∙ find_none p xs (All-tail (λ y. p y ≡ false) x xs all)

module _ {X K : Type 0} {R : K → K → Ordering} (order : IsTotalOrder R) (key : X → K) (xs : List X)
    (rising : AllPairs (λ one other. R (key one) (key other) ≡ Less) xs) (sought : K) where
  pub found_at :
      (i : ℕ) (d : X) → i < length xs → R (key (get_or xs i d)) sought ≡ Equal
      → Some (get_or xs i d) ≡ find (λ x. is_eq (R (key x) sought)) xs
  found_at i d within hit =
      let first =
      position_or_len_is (λ x. is_eq (R (key x) sought)) xs i d (omega arith) (λ k lower. ap is_eq (before k lower))
      (λ _. ap is_eq hit) in
      sym (find_at (λ x. is_eq (R (key x) sought)) xs ∙ ap (slice_get xs) first ∙ slice_get-get_or xs i d within) where
        before : (k : ℕ) → k < i → R (key (get_or xs k d)) sought ≡ Less
        before k lower =
            sym (alike_right order (key (get_or xs i d)) sought (key (get_or xs k d)) hit) ∙ rising k i d lower within

  pub found_there :
      (i : ℕ) (x : X) → i < length xs → x ≡ get_or xs i x → R (key x) sought ≡ Equal
      → Some x ≡ find (λ y. is_eq (R (key y) sought)) xs
  found_there i x within is hit =
      ap (λ y. Some y) is ∙ found_at i x within (ap (λ y. R (key y) sought) (sym is) ∙ hit)

  sorted : IsSortedBy (λ one other. is_lt (R (key one) (key other))) xs
  sorted k d low within =
      ap is_lt
      (order.antisymm (key (get_or xs (k + 1) d)) (key (get_or xs k d))
      ∙ ap ordering_reverse (rising k (k + 1) d (omega arith) within))

  pub searchable : IsNonDecreasingBy (λ x. ordering_index (R (key x) sought)) xs
  searchable = searchable_from_sorted order key xs sought sorted

  pub not_found :
      (i : ℕ) → IsPartitionPoint (λ x. R (key x) sought ≡ Less) (λ x. R (key x) sought ≡ Greater) xs i
      → None ≡ find (λ x. is_eq (R (key x) sought)) xs
  not_found i apart = sym (find_none (λ x. is_eq (R (key x) sought)) xs (λ k d within. by k d within (cases_lt k i))) where
    by : (k : ℕ) (d : X) → k < length xs → (k < i) ⊎ (i ≤ k) → is_eq (R (key (get_or xs k d)) sought) ≡ false
    by k d within (inl lower) = ap is_eq (apart.0 k d (omega arith) lower)
    by k d within (inr upper) = ap is_eq (apart.1 k d upper within)

  -- no element is between two neighbours of which the first comes before the key and the second after it
  pub none_between :
      (i : ℕ) → ((k : ℕ) → i ≡ k + 1 → (x : X) × (slice_get xs k ≡ Some x) × (R (key x) sought ≡ Less))
      → ((x : X) → slice_get xs i ≡ Some x → R sought (key x) ≡ Less) → None ≡ find (λ x. is_eq (R (key x) sought)) xs
  none_between i past ahead = not_found i (before, after) where
    later : (k : ℕ) (d : X) → k < i → i ≡ (i - 1) + 1 → R (key (get_or xs k d)) sought ≡ Less
    later k d lower is = by (past (i - 1) is) (cases_lt k (i - 1)) where
      by :
          (x : X) × (slice_get xs (i - 1) ≡ Some x) × (R (key x) sought ≡ Less) → (k < i - 1) ⊎ (i - 1 ≤ k)
          → R (key (get_or xs k d)) sought ≡ Less
      by last (inl earlier) =
          order.trans (key (get_or xs k d)) (key (get_or xs (i - 1) d)) sought
          (rising k (i - 1) d earlier (slice_get_within xs (i - 1) last.0 last.1))
          (ap (λ x. R (key x) sought) (get_or_from_slice_get xs (i - 1) last.0 d last.1) ∙ last.2)
      by last (inr same) =
          let is_last : k ≡ i - 1 = omega arith in
          ap (λ n. R (key (get_or xs n d)) sought) is_last
          ∙ ap (λ x. R (key x) sought) (get_or_from_slice_get xs (i - 1) last.0 d last.1) ∙ last.2

    before : (k : ℕ) (d : X) → 0 ≤ k → k < i → R (key (get_or xs k d)) sought ≡ Less
    before k d _ lower = later k d lower (omega arith)

    first : (d : X) → i < length xs → R (key (get_or xs i d)) sought ≡ Greater
    first d within =
        order.antisymm (key (get_or xs i d)) sought
        ∙ ap ordering_reverse (ahead (get_or xs i d) (slice_get-get_or xs i d within))

    after : (k : ℕ) (d : X) → i ≤ k → k < length xs → R (key (get_or xs k d)) sought ≡ Greater
    after k d upper within = by (cases_lt i k) where
      by : (i < k) ⊎ (k ≤ i) → R (key (get_or xs k d)) sought ≡ Greater
      by (inl behind) =
          order.antisymm (key (get_or xs k d)) sought
          ∙ ap ordering_reverse
          (order.trans sought (key (get_or xs i d)) (key (get_or xs k d))
          (ahead (get_or xs i d) (slice_get-get_or xs i d (omega arith))) (rising i k d behind within))
      by (inr same) =
          let is : k ≡ i = omega arith in
          ap (λ n. R (key (get_or xs n d)) sought) is ∙ first d (omega arith)
