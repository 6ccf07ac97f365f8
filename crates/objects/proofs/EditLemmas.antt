-- A list edited at one place: its elements at each place, and an edit as a write.
use Rattle.std.{specs.Prelude.{option_map, slice_get, slice_index_or}, proofs.Common.{[], ℕ, ◌<◌, ◌∷◌, ◌≡◌, ◌≢◌}}
use Rattle.{std.proofs.Common.{List, ap, arith, length, refl, set, suc, sym, zero}, objects.specs.Edits.edited}

module _ {X : Type 0} (change : X → X) where
  pub edited_past : (xs : List X) (place : ℕ) → (place < length xs → ⊥) → edited change xs place ≡ xs
  edited_past [] place past = refl
  edited_past (x ∷ xs) zero past = absurd (past (omega arith))
  edited_past (x ∷ xs) (suc place) past = ap (λ ys. x ∷ ys) (edited_past xs place (λ within. past (omega arith)))

  pub length_edited : (xs : List X) (place : ℕ) → length (edited change xs place) ≡ length xs
  length_edited [] place = refl
  length_edited (x ∷ xs) zero = refl
  length_edited (x ∷ xs) (suc place) = ap suc (length_edited xs place)

  pub slice_get_edited_same :
      (xs : List X) (place : ℕ) → slice_get (edited change xs place) place ≡ option_map change (slice_get xs place)
  slice_get_edited_same [] place = refl
  slice_get_edited_same (x ∷ xs) zero = refl
  slice_get_edited_same (x ∷ xs) (suc place) = slice_get_edited_same xs place

  pub slice_get_edited_other : (xs : List X) (place at : ℕ) → at ≢ place → slice_get (edited change xs place) at ≡ slice_get xs at
  slice_get_edited_other [] place at apart = refl
  slice_get_edited_other (x ∷ xs) zero zero apart = absurd (apart refl)
  slice_get_edited_other (x ∷ xs) zero (suc at) apart = refl
  slice_get_edited_other (x ∷ xs) (suc place) zero apart = refl
  slice_get_edited_other (x ∷ xs) (suc place) (suc at) apart = slice_get_edited_other xs place at (λ same. apart (ap suc same))

pub edited_within :
    {X : Type 0} (change : X → X) (x : X) (xs : List X) (place : ℕ) → place < length xs → x ≡ slice_index_or xs place x
    → edited change xs place ≡ set xs place (change x)
edited_within change x [] place within is = absurd (omega arith)
edited_within change x (y ∷ xs) zero within is = ap (λ z. change z ∷ xs) (sym is)
edited_within change x (y ∷ xs) (suc place) within is = ap (λ ys. y ∷ ys) (edited_within change x xs place (omega arith) is)
