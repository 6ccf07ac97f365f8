-- Lists after a change at one place.
use Rattle.std.{specs.Prelude.{[], ℕ, ◌∷◌, List}, proofs.Common.{suc, zero}}

-- the list with its element at this place changed, and the list itself if it has none there
abbrev pub edited : {X : Type 0} → (X → X) → List X → ℕ → List X
edited change [] place = []
edited change (x ∷ xs) zero = change x ∷ xs
edited change (x ∷ xs) (suc place) = x ∷ edited change xs place
