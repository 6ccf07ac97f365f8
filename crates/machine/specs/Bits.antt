-- Numbers as strings of bits, the highest first.
use Rattle.std.specs.{Int.bit_at, Prelude.{[], ℕ, ◌*◌, ◌+◌, ◌==◌, ◌∷◌, Bool, List, None, Option, Some, false, if◌then◌else◌, suc, true}}
use Rattle.std.specs.Prelude.{zero}

-- the low `size` bits of a number
abbrev pub bits : ℕ → ℕ → List Bool
bits zero value = []
bits (suc size) value = (bit_at value size == 1) ∷ bits size value

-- the number that a string stands for, after what was read before it
abbrev pub number_from : ℕ → List Bool → ℕ
number_from before [] = before
number_from before (true ∷ string) = number_from (before * 2 + 1) string
number_from before (false ∷ string) = number_from (before * 2) string

abbrev pub number : List Bool → ℕ
number string = number_from 0 string

abbrev pub same_bit : Bool → Bool → Bool
same_bit true true = true
same_bit false false = true
same_bit _ _ = false

-- the rest of a string after a beginning, if it has that beginning
abbrev pub after : List Bool → List Bool → Option (List Bool)
after [] string = Some string
after (b ∷ bs) [] = None
after (b ∷ bs) (c ∷ cs) = if same_bit b c then after bs cs else None

-- the first `size` bits of a string and the rest, if it has that many
abbrev pub split : ℕ → List Bool → Option (List Bool × List Bool)
split zero string = Some ([], string)
split (suc size) [] = None
split (suc size) (b ∷ bs) = with_first b (split size bs) where
  with_first : Bool → Option (List Bool × List Bool) → Option (List Bool × List Bool)
  with_first b None = None
  with_first b (Some parts) = Some (b ∷ parts.0, parts.1)
