-- Lists without their last element: what holds of the whole list holds of the front, and relates the last element to it.
use Rattle.std.{specs.{List.list_any, Str.bytes_eq}, proofs.Common.{[], ℕ, ◌++◌, ◌+◌, ◌-◌, ◌<◌, ◌∷◌, ◌≡◌, All, AllPairs, Bool, List, None}}
use Rattle.std.proofs.Common.{Option, Some, arith, false, get_or, is_some, length, position, refl, slice_get, subst, suc, sym}
use Rattle.std.proofs.lemmas.{Bool.or_from, List.{append-nil, append_assoc, get_or_append_left, get_or_push, length_push, Elements.All-nil}}
use Rattle.std.proofs.lemmas.{List.{Elements.{All-pop, All-same}, Quantifiers.position-Some}, Option.get_or_from_slice_get}
use Rattle.std.proofs.lemmas.{Option.slice_get_within, Slice.Eq.bytes_eq-Decides}

pub all_front : {X : Type 0} (P : X → Type 0) (xs : List X) (x : X) → All P (xs ++ x ∷ []) → All P xs × P x
all_front P xs x h = All-pop P (xs ++ x ∷ []) xs (Some x) refl h

pub pairs_front :
    {X : Type 0} (R : X → X → Type 0) (xs : List X) (x : X) → AllPairs R (xs ++ x ∷ [])
    → AllPairs R xs × ((k : ℕ) (d : X) → k < length xs → R (get_or xs k d) x)
pairs_front {X = X} R xs x h = (in_front, to_last) where
  size : length (xs ++ x ∷ []) ≡ length xs + 1
  size = length_push xs x

  in_front : AllPairs R xs
  in_front i j d lower within =
      let first : get_or (xs ++ x ∷ []) i d ≡ get_or xs i d = get_or_append_left xs (x ∷ []) d i (omega arith) in
      let second : get_or (xs ++ x ∷ []) j d ≡ get_or xs j d = get_or_append_left xs (x ∷ []) d j within in
      subst (λ y. R y (get_or xs j d)) first
      (subst (λ y. R (get_or (xs ++ x ∷ []) i d) y) second (h i j d lower (omega (arith, size))))

  to_last : (k : ℕ) (d : X) → k < length xs → R (get_or xs k d) x
  to_last k d within =
      let first : get_or (xs ++ x ∷ []) k d ≡ get_or xs k d = get_or_append_left xs (x ∷ []) d k within in
      let second : get_or (xs ++ x ∷ []) (length xs) d ≡ x = get_or_push xs x d (length xs) refl in
      subst (λ y. R y x) first
      (subst (λ y. R (get_or (xs ++ x ∷ []) k d) y) second (h k (length xs) d within (omega (arith, size))))

-- every fact holds of all elements of an empty list
pub all_of_none : {X : Type 0} (P : X → Type 0) (xs : List X) → xs ≡ [] → All P xs
all_of_none P xs e = All-same P xs [] e (All-nil P)

pub none_passes :
    {X : Type 0} (p : X → Bool) (xs : List X) → ((k : ℕ) (d : X) → k < length xs → p (get_or xs k d) ≡ false)
    → list_any p xs ≡ false
none_passes p [] none = refl
none_passes p (x ∷ xs) none =
    or_from (p x) (list_any p xs) (none 0 x (omega arith)) (none_passes p xs (λ k d within. none (suc k) d (omega arith)))

pub no_place :
    (name : List ℕ) (names : List (List ℕ)) → ((k : ℕ) (d : List ℕ) → k < length names → get_or names k d ≡ name → ⊥)
    → is_some (position (λ other. bytes_eq name other) names) ≡ false
no_place name names apart = by (position (λ other. bytes_eq name other) names) refl where
  by : (place : Option ℕ) → position (λ other. bytes_eq name other) names ≡ place → is_some place ≡ false
  by None at = refl
  by (Some k) at =
      let found = position-Some (λ other. bytes_eq name other) names k [] at in
      absurd (apart k [] found.0 (sym ((bytes_eq-Decides name (get_or names k [])).0 found.1)))

-- a fact about each element holds of the last
pub at_last :
    {X : Type 0} (P : X → Type 0) (xs : List X) (x : X) → ((k : ℕ) (d : X) → k < length xs → P (get_or xs k d))
    → slice_get xs (length xs - 1) ≡ Some x → P x
at_last P xs x each at =
    subst P (get_or_from_slice_get xs (length xs - 1) x x at) (each (length xs - 1) x (slice_get_within xs (length xs - 1) x at))

-- induction over a list that grows at its end
pub from_front :
    {X : Type 0} (P : List X → Type 0) → ((xs : List X) (x : X) → P xs → P (xs ++ x ∷ [])) → (front rest : List X) → P front
    → P (front ++ rest)
from_front P push front [] h = subst P (sym (append-nil front)) h
from_front P push front (x ∷ rest) h =
    subst P (append_assoc front (x ∷ []) rest) (from_front P push (front ++ x ∷ []) rest (push front x h))
