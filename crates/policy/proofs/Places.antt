-- The search for the first place, in a list whose elements add rising numbers to a beginning: the first element under which a place has a
-- property has the first such place under it.
use Rattle.std.{specs.{declared.cmp.Ordering.{Ordering, TheVariants.Less}, Ordering.{is_lt, nat_cmp, ordering_then}}, proofs.Common.{[], ℕ}}
use Rattle.std.proofs.Common.{◌++◌, ◌+◌, ◌<◌, ◌∙◌, ◌∷◌, ◌≡◌, ◌≤◌, ◌⊎◌, List, Some, ap, arith, inl, inr, length, slice_get, subst, sym}
use Rattle.std.proofs.lemmas.{Bool.cases_order, Option.{same_Some, slice_get_within}}
use Rattle.policy.specs.Places.{Begins, ComesBefore, IsLeast, IsNone, IsUnder}
use mathlib.Core.Bool.{false≢true}

-- the first number that differs decides
pub decided : (x y : ℕ) (rest : Ordering) → ordering_then (nat_cmp x y) rest ≡ Less → (x < y) ⊎ ((x ≡ y) × (rest ≡ Less))
decided x y rest less = grind (arith, less)

pub not_before_itself : (place : List ℕ) → ComesBefore place place → ⊥
not_before_itself [] less = false≢true (ap is_lt less)
not_before_itself (x ∷ xs) less = elim (decided x x _ less) [ inl before ↦ omega arith | inr same ↦ not_before_itself xs same.1 ]

-- two lists differ first in a number that both have, which is smaller in the first
abbrev pub IsBelow : List ℕ → List ℕ → Type 0
IsBelow [] other = ⊥
IsBelow (x ∷ xs) [] = ⊥
IsBelow (x ∷ xs) (y ∷ ys) = (x < y) ⊎ ((x ≡ y) × IsBelow xs ys)

below_joined : (beginning one other : List ℕ) → IsBelow one other → IsBelow (beginning ++ one) (beginning ++ other)
below_joined [] one other below = below
below_joined (b ∷ bs) one other below = inr ((λ i. b), below_joined bs one other below)

-- a list that begins with the smaller number comes first
apart :
    (one other low high : List ℕ) → IsBelow one other → Begins one low → Begins other high → ComesBefore high low → ⊥
apart [] other low high below left right less = below
apart (a ∷ one) [] low high below left right less = below
apart (a ∷ one) (b ∷ other) [] high below left right less = left
apart (a ∷ one) (b ∷ other) (x ∷ low) [] below left right less = right
apart (a ∷ one) (b ∷ other) (x ∷ low) (y ∷ high) below left right less = elim (decided y x _ less) [
  | inl before ↦ elim below [ inl lt ↦ omega (arith, left.0, right.0) | inr same ↦ omega (arith, left.0, right.0, same.0) ]
  | inr tied ↦ elim below [ inl lt ↦ omega (arith, left.0, right.0, tied.0) | inr same ↦ apart one other low high same.1 left.1 right.1 tied.1 ]
]

begins_front : (beginning more ys : List ℕ) → Begins (beginning ++ more) ys → Begins beginning ys
begins_front [] more ys h = tt
begins_front (b ∷ bs) more [] h = h
begins_front (b ∷ bs) more (y ∷ ys) h = (h.0, begins_front bs more ys h.1)

-- under each place of the property there is an element of the list, and the elements rise
pub record Searches
    {X A : Type 0} (place : X → List ℕ) (P : X → Type 0) (beginning : List ℕ) (xs : List A) (adds : A → List ℕ) : Type 0 where
  pub covers :
      (x : X) → IsUnder place P beginning x
      → (k : ℕ) × (a : A) × (slice_get xs k ≡ Some a) × Begins (beginning ++ adds a) (place x)
  pub rises :
      (i j : ℕ) (a b : A) → i < j → slice_get xs i ≡ Some a → slice_get xs j ≡ Some b → IsBelow (adds a) (adds b)

-- under the first elements of a list no place has the property
abbrev pub NoneSoFar :
    {X A : Type 0} → (X → List ℕ) → (X → Type 0) → List ℕ → List A → (A → List ℕ) → ℕ → Type 0
NoneSoFar {X} {A} place P beginning xs adds n =
    (k : ℕ) (a : A) → k < n → slice_get xs k ≡ Some a → IsNone (IsUnder place P (beginning ++ adds a))

module _
    {X A : Type 0} {place : X → List ℕ} {P : X → Type 0} {beginning : List ℕ} {xs : List A} {adds : A → List ℕ}
    (search : Searches place P beginning xs adds) where
  -- one element more
  pub none_more :
      (n : ℕ) (a : A) → slice_get xs n ≡ Some a → NoneSoFar place P beginning xs adds n
      → IsNone (IsUnder place P (beginning ++ adds a)) → NoneSoFar place P beginning xs adds (n + 1)
  none_more n a here before none k b lt at = elim (cases_order k n) [
    | inl last ↦ subst (λ (c : A). IsNone (IsUnder place P (beginning ++ adds c))) (same_Some a b (sym here ∙ ap (slice_get xs) (sym last) ∙ at)) none
    | inr (inl below) ↦ before k b below at
    | inr (inr above) ↦ absurd (omega arith)
  ]

  pub none_at_all : (n : ℕ) → length xs ≤ n → NoneSoFar place P beginning xs adds n → IsNone (IsUnder place P beginning)
  none_at_all n all none x under =
      let at = search.covers x under in
      let within = slice_get_within xs at.0 at.1 at.2 in
      none at.0 at.1 (omega (arith, within, all)) at.2 x (at.3, under.1)

  pub least_here :
      (n : ℕ) (a : A) → slice_get xs n ≡ Some a → NoneSoFar place P beginning xs adds n → (x : X)
      → IsLeast place (IsUnder place P (beginning ++ adds a)) x → IsLeast place (IsUnder place P beginning) x
  least_here n a here none x least = record {
    has = (begins_front beginning (adds a) (place x) least.has.0, least.has.1);
    first = λ other under before.
        let at = search.covers other under in
        elim (cases_order at.0 n) [
          | inl same ↦ least.first other (subst (λ (c : A). Begins (beginning ++ adds c) (place other)) (same_Some at.1 a (sym at.2 ∙ ap (slice_get xs) same ∙ here)) at.3, under.1) before
          | inr (inl below) ↦ none at.0 at.1 below at.2 other (at.3, under.1)
          | inr (inr above) ↦ apart (beginning ++ adds a) (beginning ++ adds at.1) (place x) (place other) (below_joined beginning (adds a) (adds at.1) (search.rises n at.0 a at.1 above here at.2)) least.has.0 at.3 before
        ];
  }

-- the only place with a property is the first
pub only_least :
    {X : Type 0} (place : X → List ℕ) (P : X → Type 0) (x : X) → P x → ((other : X) → P other → other ≡ x) → IsLeast place P x
only_least place P x has only = record {
  has = has;
  first = λ other also before. not_before_itself (place x) (subst (λ y. ComesBefore (place y) (place x)) (only other also) before);
}

begins_joined : (beginning more : List ℕ) → Begins beginning (beginning ++ more)
begins_joined [] more = tt
begins_joined (b ∷ bs) more = ((λ i. b), begins_joined bs more)

-- lists with the same beginning are ordered by the rest
before_joined : (beginning one other : List ℕ) → ComesBefore (beginning ++ one) (beginning ++ other) → ComesBefore one other
before_joined [] one other less = less
before_joined (b ∷ bs) one other less = elim (decided b b _ less) [ inl lt ↦ absurd (omega (arith, lt)) | inr same ↦ before_joined bs one other same.1 ]

-- each x with the property under the beginning is made of something that adds its numbers to the beginning
pub record IsMade
    {X A : Type 0} (place : X → List ℕ) (P : X → Type 0) (beginning : List ℕ) (make : A → X) (adds : A → List ℕ) : Type 0 where
  pub of : (x : X) → IsUnder place P beginning x → (a : A) × (x ≡ make a)
  pub placed : (a : A) → place (make a) ≡ beginning ++ adds a

module _
    {X A : Type 0} {place : X → List ℕ} {P : X → Type 0} {beginning : List ℕ} {make : A → X} {adds : A → List ℕ}
    (made : IsMade place P beginning make adds) where
  pub none_made : ((a : A) → P (make a) → ⊥) → IsNone (IsUnder place P beginning)
  none_made none x under = let a = made.of x under in none a.0 (subst P a.1 under.1)

  pub least_made :
      (a : A) → P (make a) → ((b : A) → P (make b) → ComesBefore (adds b) (adds a) → ⊥)
      → IsLeast place (IsUnder place P beginning) (make a)
  least_made a has first = record {
    has = (subst (Begins beginning) (sym (made.placed a)) (begins_joined beginning (adds a)), has);
    first = λ other under before.
        let b = made.of other under in
        first b.0 (subst P b.1 under.1)
        (before_joined beginning (adds b.0) (adds a)
        (subst (λ p. ComesBefore p (beginning ++ adds a)) (ap place b.1 ∙ made.placed b.0) (subst (ComesBefore (place other)) (made.placed a) before)));
  }
