-- Filtered lists: a filter twice is a filter once, tests that agree on the elements keep the same, and a test that all pass keeps all.
use Rattle.std.{specs.Prelude.{All, filter}, proofs.Common.{[], ◌&&◌, ◌∙◌, ◌∷◌, ◌≡◌, Bool, List, ap, cond, false, refl, true}}
use Rattle.std.proofs.lemmas.List.Elements.{All-head, All-tail}

pub filter_twice : {A : Type 0} (p q : A → Bool) (xs : List A) → filter p (filter q xs) ≡ filter (λ x. q x && p x) xs
filter_twice p q [] = refl
filter_twice {A} p q (x ∷ xs) = by_test (filter_twice p q xs) (q x) where
  by_test :
      filter p (filter q xs) ≡ filter (λ y. q y && p y) xs → (b : Bool)
      → filter p (cond b (x ∷ filter q xs) (filter q xs))
      ≡ cond (b && p x) (x ∷ filter (λ y. q y && p y) xs) (filter (λ y. q y && p y) xs)
  by_test later true = ap (λ (ys : List A). cond (p x) (x ∷ ys) ys) later
  by_test later false = later

pub filter_same :
    {A : Type 0} (p q : A → Bool) (xs : List A) → All (λ x. p x ≡ q x) xs → filter p xs ≡ filter q xs
filter_same p q [] agree = refl
filter_same {A} p q (x ∷ xs) agree =
    ap (λ b. cond b (x ∷ filter p xs) (filter p xs)) (All-head (λ y. p y ≡ q y) x xs agree)
    ∙ ap (λ (ys : List A). cond (q x) (x ∷ ys) ys) (filter_same p q xs (All-tail (λ y. p y ≡ q y) x xs agree))

pub filter_all : {A : Type 0} (p : A → Bool) (xs : List A) → All (λ x. p x ≡ true) xs → filter p xs ≡ xs
filter_all p [] pass = refl
filter_all {A} p (x ∷ xs) pass =
    ap (λ b. cond b (x ∷ filter p xs) (filter p xs)) (All-head (λ y. p y ≡ true) x xs pass)
    ∙ ap (λ (ys : List A). x ∷ ys) (filter_all p xs (All-tail (λ y. p y ≡ true) x xs pass))
