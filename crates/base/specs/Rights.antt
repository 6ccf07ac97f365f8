-- The word of a set of rights, and the set that a word names: the letters of read, write, grant and grant-reply in this order,
-- or - for none (seL4 manual, "Capability Rights").
use Rattle.std.specs.{Int.RustNames.bit_and, List.{find, list_any}, Prelude.{[], ℕ, ◌++◌, ◌<◌, ◌==◌, ◌∷◌, List, Option, bytes_eq, codes, if◌then◌else◌}}
use Rattle.std.specs.Prelude.{map}
use Rattle.base.specs.declared.rights.Rights.{Rights}

-- the set whose bits are those of a number
abbrev pub rights_with : ℕ → Rights
rights_with bits = record { 0 = bits }

-- a set of the four rights, with no further bit
abbrev pub IsRights : Rights → Type 0
IsRights rights = rights.0 < 16

-- a letter, if the set has the right that it stands for
abbrev pub letter_of : Rights → ℕ → List ℕ → List ℕ
letter_of rights right letter = if bit_and rights.0 right == right then letter else []

abbrev pub rights_word : Rights → List ℕ
rights_word rights =
    if bit_and rights.0 15 == 0 then codes "-" else
    (letter_of rights 1 (codes "r") ++ letter_of rights 2 (codes "w") ++ letter_of rights 4 (codes "g") ++ letter_of rights 8 (codes "y"))

-- the bit of a right, if its letter is in a word
abbrev pub bit_in : List ℕ → ℕ → ℕ → ℕ
bit_in word letter right = if list_any (λ x. x == letter) word then right else 0

-- every set of the four rights
abbrev pub all_rights : List Rights
all_rights = map rights_with (0 ∷ 1 ∷ 2 ∷ 3 ∷ 4 ∷ 5 ∷ 6 ∷ 7 ∷ 8 ∷ 9 ∷ 10 ∷ 11 ∷ 12 ∷ 13 ∷ 14 ∷ 15 ∷ [])

-- the set whose word it is, if it is the word of one
unfoldable pub rights_of_word : List ℕ → Option Rights
rights_of_word word = find (λ rights. bytes_eq word (rights_word rights)) all_rights
