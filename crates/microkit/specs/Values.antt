-- Values of attributes: numbers and flags (Microkit user manual, "System Description File").
use Rattle.std.specs.{Char.is_digit, List.list_all, Prelude.{[], ℕ, ◌∷◌, ◌&&◌, ◌==◌, Bool, List, None, Option, Some, codes, drop, false}}
use Rattle.std.specs.{Prelude.{filter, if◌then◌else◌, not, take, true}, Str.{bytes_eq, Parse.digits_value}}
use Rattle.words.specs.Number.{below_limit}

-- a text without `_`, which may stand between digits
abbrev pub bare : List ℕ → List ℕ
bare text = filter (λ b. not (b == 95)) text

-- there is a digit
abbrev pub is_some_digit : List ℕ → Bool
is_some_digit [] = false
is_some_digit (digit ∷ digits) = true

-- the number that digits of this base spell, below 2 ^ 64
unfoldable pub digits_of : ℕ → List ℕ → Option ℕ
digits_of base digits =
    if is_some_digit digits && list_all (λ b. is_digit b base) digits
    then below_limit (digits_value base digits)
    else None

-- a number: decimal, or hexadecimal after `0x`
unfoldable pub number_of : List ℕ → Option ℕ
number_of value =
    if bytes_eq (take 2 value) (codes "0x") then digits_of 16 (bare (drop 2 value)) else digits_of 10 (bare value)

unfoldable pub flag_of : List ℕ → Option Bool
flag_of value =
    if bytes_eq value (codes "true") then Some true else
    if bytes_eq value (codes "false") then Some false else None
