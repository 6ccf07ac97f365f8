-- Names in texts: 1 to 31 lower-case letters, digits and `_`, the first a letter (confine's own).
use Rattle.std.specs.{Char.{is_ascii_digit, is_ascii_lowercase}, List.list_all, Prelude.{[], ℕ, ◌&&◌, ◌==◌, ◌||◌, ◌∷◌, Bool, List, None}}
use Rattle.std.specs.Prelude.{Ok, Option, Result, Some, false, if◌then◌else◌, length, nat_le}
use Rattle.words.specs.{declared.{faults.Wrong.Wrong, names.TheConstants.MAX_NAME_LENGTH}, Reading.{◌>>=◌, or_syntax, word_at}}

-- a byte that may be in a name; 95 is `_`
abbrev pub is_name_byte : ℕ → Bool
is_name_byte b = (is_ascii_lowercase b || is_ascii_digit b) || b == 95

abbrev pub starts_with_letter : List ℕ → Bool
starts_with_letter [] = false
starts_with_letter (b ∷ bs) = is_ascii_lowercase b

abbrev pub is_name : List ℕ → Bool
is_name word = (starts_with_letter word && nat_le (length word) MAX_NAME_LENGTH) && list_all is_name_byte word

unfoldable pub name_of : List ℕ → Option (List ℕ)
name_of word = if is_name word then Some word else None

-- the next word as a name
unfoldable pub name_at : List (List ℕ) → Result (List ℕ × List (List ℕ)) Wrong
name_at words = do
  word ← word_at words
  name ← or_syntax (name_of word.0)
  Ok (name, word.1)
