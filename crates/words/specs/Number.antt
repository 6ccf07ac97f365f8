-- Numbers in texts, below 2 ^ 64: decimal, and hexadecimal in lower case after `0x`, both without a leading zero (confine's own).
use Rattle.std.specs.{Char.is_ascii_digit, Fmt.digits, Int.is_in_range, List.list_all, Prelude.{[], ℕ, ◌&&◌, ◌++◌, ◌==◌, ◌^◌, ◌||◌, ◌∷◌}}
use Rattle.std.specs.Prelude.{Bool, List, None, Ok, Option, Result, Some, codes, drop, false, if◌then◌else◌, nat_lt, not, take, true}
use Rattle.{std.specs.Str.{Parse.digits_value, bytes_eq}, words.specs.{declared.faults.Wrong.Wrong, Reading.{◌>>=◌, or_syntax, word_at}}}

-- at least one digit, and no leading zero unless it is the only digit
abbrev pub has_no_leading_zero : List ℕ → Bool
has_no_leading_zero [] = false
has_no_leading_zero (digit ∷ []) = true
has_no_leading_zero (digit ∷ next ∷ digits) = not (digit == 48)

-- the number, if 64 bits hold it
abbrev pub below_limit : ℕ → Option ℕ
below_limit n = if nat_lt n (2 ^ 64) then Some n else None

-- decimal digits without a leading zero
abbrev pub is_decimal : List ℕ → Bool
is_decimal word = has_no_leading_zero word && list_all is_ascii_digit word

-- the number that a decimal word spells
unfoldable pub dec_of : List ℕ → Option ℕ
dec_of word = if is_decimal word then below_limit (digits_value 10 word) else None

-- the next word as a decimal number
unfoldable pub number_at : List (List ℕ) → Result (ℕ × List (List ℕ)) Wrong
number_at words = do
  word ← word_at words
  number ← or_syntax (dec_of word.0)
  Ok (number, word.1)

-- the digits 0 to 9 and a to f
abbrev pub is_hex_digit : ℕ → Bool
is_hex_digit b = is_in_range 48 57 b || is_in_range 97 102 b

-- hexadecimal digits without a leading zero
abbrev pub is_hexadecimal : List ℕ → Bool
is_hexadecimal digits = has_no_leading_zero digits && list_all is_hex_digit digits

-- the number that hexadecimal digits spell
unfoldable pub hex_digits_of : List ℕ → Option ℕ
hex_digits_of digits = if is_hexadecimal digits then below_limit (digits_value 16 digits) else None

-- the number that a hexadecimal word spells
unfoldable pub hex_of : List ℕ → Option ℕ
hex_of word = if bytes_eq (take 2 word) (codes "0x") then hex_digits_of (drop 2 word) else None

-- the hexadecimal word of a number
abbrev pub hexadecimal : ℕ → List ℕ
hexadecimal n = codes "0x" ++ digits 16 false n

-- the next word as a hexadecimal number
unfoldable pub hex_at : List (List ℕ) → Result (ℕ × List (List ℕ)) Wrong
hex_at words = do
  word ← word_at words
  number ← or_syntax (hex_of word.0)
  Ok (number, word.1)
