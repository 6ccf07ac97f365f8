-- Which bytes may stand where in a description: white space, names, values and comments (XML 1.0, for ASCII alone).
use Rattle.std.specs.{Char.{is_ascii_alphabetic, is_ascii_alphanumeric}, Int.is_in_range, List.prefix_len, Prelude.{[], ℕ, ◌&&◌, ◌+◌, ◌==◌}}
use Rattle.std.specs.{Prelude.{◌||◌, ◌∷◌, Bool, List, codes, false, if◌then◌else◌, length, nat_le, not, take}, Str.bytes_eq}

-- space, tab, line feed and carriage return
abbrev pub is_space : ℕ → Bool
is_space b = ((b == 32 || b == 9) || b == 10) || b == 13

-- what a name begins with: a letter or `_`
abbrev pub is_name_start : ℕ → Bool
is_name_start b = is_ascii_alphabetic b || b == 95

-- what may follow in a name: letters, digits, `_`, `-` and `.`
abbrev pub is_name_byte : ℕ → Bool
is_name_byte b = ((is_ascii_alphanumeric b || b == 95) || b == 45) || b == 46

-- printable ASCII
abbrev pub is_printable : ℕ → Bool
is_printable b = is_in_range 32 126 b

-- what may stand between two quotes: printable ASCII but `<` and the quote
abbrev pub is_value_byte : ℕ → ℕ → Bool
is_value_byte quote b = (is_printable b && not (b == 60)) && not (b == quote)

-- what may stand in a comment: white space, printable ASCII, and bytes from 128 on
abbrev pub is_comment_byte : ℕ → Bool
is_comment_byte b = (is_space b || is_printable b) || nat_le 128 b

-- whether these bytes come first
abbrev pub begins_with : List ℕ → List ℕ → Bool
begins_with bytes front = bytes_eq (take (length front) bytes) front

-- how many bytes at the front make a name, or 0
unfoldable pub name_length : List ℕ → ℕ
name_length [] = 0
name_length (b ∷ bs) = if is_name_start b then prefix_len is_name_byte (b ∷ bs) else 0

-- a comment goes on by one byte: it may stand there, and doesn't begin `--`
unfoldable pub in_comment : List ℕ → Bool
in_comment [] = false
in_comment (b ∷ bs) = is_comment_byte b && not (begins_with (b ∷ bs) (codes "--"))

-- how many bytes stand before the first `--`, or before the first byte that may not stand in a comment
unfoldable pub comment_length : List ℕ → ℕ
comment_length [] = 0
comment_length (b ∷ bs) = if in_comment (b ∷ bs) then 1 + comment_length bs else 0
