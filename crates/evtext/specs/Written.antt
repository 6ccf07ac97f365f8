-- A text after words are written at its end, each after a space (confine's own).
use Rattle.std.specs.{List.{fold, join_with_byte}, Prelude.{ℕ, ◌++◌, ◌∷◌, List}}

abbrev pub written : List ℕ → List (List ℕ) → List ℕ
written text words = fold (λ so_far word. so_far ++ 32 ∷ word) text words

-- words as they are written, single spaces between them
abbrev pub spelled : List (List ℕ) → List ℕ
spelled words = join_with_byte 32 words
