-- Counts of the elements of a list that pass each of two tests, one of which lets fewer through.
use Rattle.std.{specs.{List.{count_by, list_any}, Prelude.◌||◌}, proofs.Common.{[], ℕ, ◌<◌, ◌∙◌, ◌∷◌, ◌≡◌, ◌≤◌, Bool, List, ap, arith}}
use Rattle.std.proofs.{Common.{cond, false, refl, sym, true}, lemmas.List.Sums.sum_by-cons}

-- a test that implies another counts no more for one element
one_no_more : (few many : Bool) → (few ≡ true → many ≡ true) → cond {A = ℕ} few 1 0 ≤ cond {A = ℕ} many 1 0
one_no_more true true passes = omega arith
one_no_more true false passes = let both : false ≡ true = passes refl in cc
one_no_more false true passes = omega arith
one_no_more false false passes = omega arith

module _ {A : Type 0} (few many : A → Bool) (passes : (x : A) → few x ≡ true → many x ≡ true) where
  -- it counts no more over a list
  no_more : (xs : List A) → count_by few xs ≤ count_by many xs
  no_more [] = omega arith
  no_more (x ∷ xs) =
      let rest : count_by few xs ≤ count_by many xs = no_more xs in
      let here = one_no_more (few x) (many x) (passes x) in
      let a = sum_by-cons (λ y. cond {A = ℕ} (few y) 1 0) x xs in
      let b = sum_by-cons (λ y. cond {A = ℕ} (many y) 1 0) x xs in omega arith

  -- fewer pass the first test if some element passes the second alone
  pub fewer_pass :
      (xs : List A) (hit : A → Bool) → ((x : A) → hit x ≡ true → (few x ≡ false) × (many x ≡ true)) → list_any hit xs ≡ true
      → count_by few xs < count_by many xs
  fewer_pass [] hit alone found = cc
  fewer_pass (x ∷ xs) hit alone found = by_hit (hit x) refl (λ further. fewer_pass xs hit alone further) where
    by_hit :
        (tie : Bool) → hit x ≡ tie → (list_any hit xs ≡ true → count_by few xs < count_by many xs)
        → count_by few (x ∷ xs) < count_by many (x ∷ xs)
    by_hit true is later =
        let rest = no_more xs in
        let a = sum_by-cons (λ y. cond {A = ℕ} (few y) 1 0) x xs in
        let b = sum_by-cons (λ y. cond {A = ℕ} (many y) 1 0) x xs in
        let none : cond {A = ℕ} (few x) 1 0 ≡ 0 = ap (λ t. cond {A = ℕ} t 1 0) (alone x is).0 in
        let one : cond {A = ℕ} (many x) 1 0 ≡ 1 = ap (λ t. cond {A = ℕ} t 1 0) (alone x is).1 in omega arith
    by_hit false is later =
        let rest : count_by few xs < count_by many xs = later (sym (ap (λ t. t || list_any hit xs) is) ∙ found) in
        let here = one_no_more (few x) (many x) (passes x) in
        let a = sum_by-cons (λ y. cond {A = ℕ} (few y) 1 0) x xs in
        let b = sum_by-cons (λ y. cond {A = ℕ} (many y) 1 0) x xs in omega arith
