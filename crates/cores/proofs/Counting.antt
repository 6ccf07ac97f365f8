-- Lengths of lists by parts: a list is as long as its parts together, if each part has the elements with one number.
use Rattle.std.{specs.List.filter, proofs.Common.{[], ℕ, ◌+◌, ◌<◌, ◌==◌, ◌∷◌, ◌≡◌, ◌≢◌, ◌≤◌, All, List, ap, arith, cond, eq-eqb, inl, inr}}
use Rattle.std.proofs.{Common.{length, ne_eqb, refl, subst, suc, zero}, lemmas.{Bool.{cases_lt, cases_order}, List.Elements.All-head}}
use Rattle.std.proofs.lemmas.List.Elements.{All-tail}

-- the sum of the first numbers
abbrev pub total : (ℕ → ℕ) → ℕ → ℕ
total f zero = 0
total f (suc n) = total f n + f n

pub total_same : (f g : ℕ → ℕ) (n : ℕ) → ((i : ℕ) → i < n → f i ≡ g i) → total f n ≡ total g n
total_same f g zero same = refl
total_same f g (suc n) same =
    let before = total_same f g n (λ i below. same i (omega (arith, below))) in
    let last = same n (omega arith) in
    omega (arith, before, last)

pub total_most : (f g : ℕ → ℕ) (n : ℕ) → ((i : ℕ) → i < n → f i ≤ g i) → total f n ≤ total g n
total_most f g zero most = omega arith
total_most f g (suc n) most =
    let before = total_most f g n (λ i below. most i (omega (arith, below))) in
    let last = most n (omega arith) in
    omega (arith, before, last)

-- one number that is less makes the sum less
pub total_less : (f g : ℕ → ℕ) (n k : ℕ) → k < n → ((i : ℕ) → i < n → f i ≤ g i) → f k < g k → total f n < total g n
total_less f g zero k within most less = absurd (omega (arith, within))
total_less f g (suc n) k within most less = elim (cases_order k n) [
  | inl same ↦
      let before = total_most f g n (λ i below. most i (omega (arith, below))) in
      let here : f n < g n = subst (λ (j : ℕ). f j < g j) same less in
      omega (arith, before, here)
  | inr (inl below) ↦
      let before = total_less f g n k below (λ i below. most i (omega (arith, below))) less in
      let last = most n (omega arith) in
      omega (arith, before, last)
  | inr (inr beyond) ↦ absurd (omega (arith, beyond, within))
]

-- how many elements have this number
abbrev pub part : {A : Type 0} → (A → ℕ) → List A → ℕ → ℕ
part key xs k = length (filter (λ x. key x == k) xs)

pub part_more : {A : Type 0} (key : A → ℕ) (x : A) (xs : List A) (k : ℕ) → key x ≡ k → part key (x ∷ xs) k ≡ suc (part key xs k)
part_more key x xs k is = ap (λ b. length (cond b (x ∷ filter (λ y. key y == k) xs) (filter (λ y. key y == k) xs))) (eq-eqb (key x) k is)

pub part_same : {A : Type 0} (key : A → ℕ) (x : A) (xs : List A) (k : ℕ) → key x ≢ k → part key (x ∷ xs) k ≡ part key xs k
part_same key x xs k not = ap (λ b. length (cond b (x ∷ filter (λ y. key y == k) xs) (filter (λ y. key y == k) xs))) (ne_eqb (key x) k not)

pub parts_out : {A : Type 0} (key : A → ℕ) (x : A) (xs : List A) (n : ℕ) → n ≤ key x
    → total (part key (x ∷ xs)) n ≡ total (part key xs) n
parts_out key x xs n out =
    total_same (part key (x ∷ xs)) (part key xs) n (λ i below. part_same key x xs i (λ is. omega (arith, is, out, below)))

pub parts_in : {A : Type 0} (key : A → ℕ) (x : A) (xs : List A) (n : ℕ) → key x < n
    → total (part key (x ∷ xs)) n ≡ total (part key xs) n + 1
parts_in key x xs zero within = absurd (omega (arith, within))
parts_in key x xs (suc n) within = elim (cases_lt (key x) n) [
  | inl below ↦
      let before = parts_in key x xs n below in
      let last = part_same key x xs n (λ is. omega (arith, is, below)) in
      omega (arith, before, last)
  | inr beyond ↦
      let before = parts_out key x xs n beyond in
      let last = part_more key x xs n (omega (arith, beyond, within)) in
      omega (arith, before, last)
]

-- the parts together are no longer than the list
pub parts_most : {A : Type 0} (key : A → ℕ) (xs : List A) (n : ℕ) → total (part key xs) n ≤ length xs
parts_most key [] zero = omega arith
parts_most key [] (suc n) = let before = parts_most key [] n in omega (arith, before)
parts_most key (x ∷ xs) n =
    let before = parts_most key xs n in
    elim (cases_lt (key x) n) [
      | inl below ↦ let more = parts_in key x xs n below in omega (arith, before, more)
      | inr beyond ↦ let same = parts_out key x xs n beyond in omega (arith, before, same)
    ]

-- the parts together are as long as the list if all numbers are below the bound
pub parts_whole : {A : Type 0} (key : A → ℕ) (xs : List A) (n : ℕ) → All (λ x. key x < n) xs → total (part key xs) n ≡ length xs
parts_whole key [] n below = let most = parts_most key [] n in omega (arith, most)
parts_whole key (x ∷ xs) n below =
    let before = parts_whole key xs n (All-tail (λ y. key y < n) x xs below) in
    let more = parts_in key x xs n (All-head (λ y. key y < n) x xs below) in
    omega (arith, before, more)
