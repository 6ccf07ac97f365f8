-- Lists of names as values, without where they lie in memory (confine's own).
use Rattle.std.specs.{Global.Vec, Prelude.{ℕ, List, map}}

abbrev pub bytes_of : List (Vec ℕ) → List (List ℕ)
bytes_of names = map (λ (name : Vec ℕ). name.items) names
