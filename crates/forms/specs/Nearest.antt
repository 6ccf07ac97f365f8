-- The nearest of some names to a word. The definition is confine's own.
use Rattle.std.specs.{Option.option_or, Prelude.{ℕ, ◌&&◌, Bool, List, Option, find, length, nat_eq, nat_le, nat_lt}, Str.chars}
use Rattle.strsim.specs.Edits.{osa_table}

-- how many letters are put in, left out or changed, or swapped with their neighbours, from a word to a name
abbrev pub edits : List ℕ → List ℕ → ℕ
edits word name = (osa_table (chars word) (chars name)).last_row (length (chars name))

-- the word has more bytes than there are edits, and neither it nor the name has more than 64
abbrev pub is_offered : List ℕ → ℕ → List ℕ → Bool
is_offered word k name = nat_lt k (length word) && nat_le (length word) 64 && nat_le (length name) 64

-- a name may be offered, and is this number of edits away
abbrev pub is_at : List ℕ → ℕ → List ℕ → Bool
is_at word k name = is_offered word k name && nat_eq (edits word name) k

-- the first name that is one edit away, or else two
abbrev pub nearest_of : List ℕ → List (List ℕ) → Option (List ℕ)
nearest_of word names = option_or (find (is_at word 1) names) (find (is_at word 2) names)
