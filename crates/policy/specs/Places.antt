-- Places as lists of numbers, and their order: which of several is the first, and what is found there (confine's own).
use Rattle.std.specs.{declared.cmp.Ordering.TheVariants.Less, Cmp.Lexicographic.slice_cmp, Ordering.nat_cmp, Prelude.{[], ℕ, ◌∷◌, ◌≡◌}}
use Rattle.std.specs.Prelude.{List, MatchOption, Option}

-- the first number that differs is smaller
abbrev pub ComesBefore : List ℕ → List ℕ → Type 0
ComesBefore one other = slice_cmp nat_cmp one other ≡ Less

-- a list begins with another
abbrev pub Begins : List ℕ → List ℕ → Type 0
Begins [] ys = Unit {0}
Begins (x ∷ xs) [] = ⊥
Begins (x ∷ xs) (y ∷ ys) = (x ≡ y) × Begins xs ys

-- x has a property, and nothing at an earlier place has it
pub record IsLeast {X : Type 0} (place : X → List ℕ) (P : X → Type 0) (least : X) : Type 0 where
  pub has : P least
  pub first : (other : X) → P other → ¬ ComesBefore (place other) (place least)

abbrev pub IsNone : {X : Type 0} → (X → Type 0) → Type 0
IsNone {X} P = (x : X) → ¬ P x

-- x has a property, at a place that begins with these numbers
abbrev pub IsUnder : {X : Type 0} → (X → List ℕ) → (X → Type 0) → List ℕ → X → Type 0
IsUnder place P beginning x = Begins beginning (place x) × P x

-- what has a property at the first place, or nothing if nothing has it
abbrev pub FindsLeast : {X : Type 0} → (X → List ℕ) → (X → Type 0) → Option X → Type 0
FindsLeast place P found = MatchOption found (IsNone P) (IsLeast place P)
