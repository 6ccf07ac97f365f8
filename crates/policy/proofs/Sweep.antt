-- The sweep over the places of a rule: which place is found first, and the number of each place.
use Rattle.std.specs.{Borrow.Bor, List.{AllZip, range_with_len}, Prelude.{IsTrue, MatchOption, filter_map}}
use Rattle.std.proofs.Common.{[], ℕ, ◌++◌, ◌<◌, ◌∙◌, ◌∷◌, ◌≡◌, Bool, List, None, Option, Some, ap, arith, length, refl, slice_get}
use Rattle.std.proofs.{Common.{subst, suc, sym, zero, zero-add}, lemmas.List.FromFn.{get_or-range_with_len, length-range_with_len}}
use Rattle.{std.proofs.lemmas.Option.{same_Some, slice_get-get_or, slice_get_within}, rayon.specs.Lists.filter_by_mask}
use Rattle.policy.{specs.Places.{FindsLeast, IsUnder}, proofs.Places.{Searches, least_here, none_at_all}}

-- the answer at the first element that has an answer
abbrev pub IsFoundFirst : {A B : Type 0} → List A → (A → Option B → Type 0) → Option B → Type 0
IsFoundFirst {A} xs gives found =
    MatchOption found ((k : ℕ) (a : A) → slice_get xs k ≡ Some a → gives a None)
    (λ b. (k : ℕ) × (a : A) × (slice_get xs k ≡ Some a) × gives a (Some b) × ((j : ℕ) (c : A) → j < k → slice_get xs j ≡ Some c → gives c None))

module _ {A B : Type 0} (gives : A → Option B → Type 0) where
  none_then : (x : A) (xs : List A) (found : Option B) → gives x None → IsFoundFirst xs gives found → IsFoundFirst (x ∷ xs) gives found
  none_then x xs None here later = λ k a at. go k a at where
    go : (k : ℕ) (a : A) → slice_get (x ∷ xs) k ≡ Some a → gives a None
    go zero a at = subst (λ (y : A). gives y None) (same_Some x a at) here
    go (suc k) a at = later k a at
  none_then x xs (Some b) here later = (suc later.0, later.1, later.2, later.3, before) where
    before : (j : ℕ) (c : A) → j < suc later.0 → slice_get (x ∷ xs) j ≡ Some c → gives c None
    before zero c lt at = subst (λ (y : A). gives y None) (same_Some x c at) here
    before (suc j) c lt at = later.4 j c (omega (arith, lt)) at

  pub found_first :
      (xs : List A) (os : List (Option B)) → AllZip gives xs os → IsFoundFirst xs gives (slice_get (filter_map (λ o. o) os) 0)
  found_first [] [] all = λ k a at. cc
  found_first [] (o ∷ os) all = absurd all
  found_first (x ∷ xs) [] all = absurd all
  found_first (x ∷ xs) (None ∷ os) all =
      none_then x xs (slice_get (filter_map (λ (o : Option B). o) os) 0) all.0 (found_first xs os all.1)
  found_first (x ∷ xs) (Some b ∷ os) all = (0, x, refl, all.0, λ j c lt at. absurd (omega (arith, lt)))

-- a filter that every element passes
pub all_pass :
    {B : Type 0} (xs : List B) (bs : List Bool) → AllZip (λ x b. (p : Bor B) × (p.now ≡ x) × IsTrue b) xs bs → filter_by_mask xs bs ≡ xs
all_pass [] [] all = refl
all_pass [] (b ∷ bs) all = absurd all
all_pass (x ∷ xs) [] all = absurd all
all_pass (x ∷ xs) (b ∷ bs) all = rw all.0.2 (ap (λ l. x ∷ l) (all_pass xs bs all.1))

-- the first of the first answers under each element is the first of all
pub least_found :
    {X A : Type 0} {place : X → List ℕ} {P : X → Type 0} {beginning : List ℕ} {xs : List A} {adds : A → List ℕ}
    (search : Searches place P beginning xs adds) (found : Option X)
    → IsFoundFirst xs (λ a. FindsLeast place (IsUnder place P (beginning ++ adds a))) found → FindsLeast place (IsUnder place P beginning) found
least_found {xs = xs} search None none = none_at_all search (length xs) (omega arith) (λ k a lt at. none k a at)
least_found search (Some x) first = least_here search first.0 first.1 first.2 (λ k a lt at. first.4 k a lt at) x first.3

abbrev pub numbers : ℕ → List ℕ
numbers n = range_with_len 0 n

pub stands : (n k : ℕ) → k < n → slice_get (numbers n) k ≡ Some k
stands n k lt =
    slice_get-get_or (numbers n) k 0 (rw (length-range_with_len 0 n) lt) ∙ ap Some (get_or-range_with_len 0 n k 0 lt ∙ zero-add k)

pub stands_alone : (n k a : ℕ) → slice_get (numbers n) k ≡ Some a → k ≡ a
stands_alone n k a at =
    let within = slice_get_within (numbers n) k a at in
    let size = length-range_with_len 0 n in
    same_Some k a (sym (stands n k (omega (arith, within, size))) ∙ at)
