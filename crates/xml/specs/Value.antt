-- Values of attributes: what stands between two quotes, and which characters its references stand for (XML 1.0).
use Rattle.std.specs.{Char.is_digit, List.{list_all, prefix_len}, Prelude.{[], ℕ, ◌&&◌, ◌++◌, ◌==◌, ◌||◌, ◌∷◌, Err, List, None, Ok, Option}}
use Rattle.std.specs.{Prelude.{Result, Some, codes, drop, if◌then◌else◌, length, nat_lt, option_and_then, take}, Str.bytes_eq}
use Rattle.std.specs.Str.Parse.{digits_value}
use Rattle.words.specs.{declared.faults.{Fault.Fault, Wrong.TheVariants.{Limit, Syntax}}, Fault.fault_at, Reading.◌>>=◌}
use Rattle.xml.specs.{declared.values.TheConstants.MAX_VALUE_LENGTH, Characters.{begins_with, is_printable, is_value_byte}, Place.Place}
use Rattle.xml.specs.Place.{after, after_spaces, expected_at}

-- the printable ASCII character whose code these digits spell
unfoldable pub code_of : ℕ → List ℕ → Option ℕ
code_of base digits =
    if list_all (λ b. is_digit b base) digits && is_printable (digits_value base digits)
    then Some (digits_value base digits)
    else None

-- the character that a reference names, which stands between `&` and `;`
unfoldable pub character_of : List ℕ → Option ℕ
character_of name =
    if bytes_eq name (codes "lt") then Some 60 else
    if bytes_eq name (codes "gt") then Some 62 else
    if bytes_eq name (codes "amp") then Some 38 else
    if bytes_eq name (codes "quot") then Some 34 else
    if bytes_eq name (codes "apos") then Some 39 else
    if begins_with name (codes "#x") then code_of 16 (drop 2 name) else
    if begins_with name (codes "#") then code_of 10 (drop 1 name) else None

-- where a reference is being read, its name so far
abbrev pub Pending : Type 0
Pending = Option (List ℕ)

-- the text so far and the bytes left, as one text, with each reference as the character that it names
unfoldable pub text_of : List ℕ → Pending → List ℕ → Option (List ℕ)
text_of text None [] = Some text
text_of text (Some name) [] = None
text_of text None (b ∷ bs) = if b == 38 then text_of text (Some []) bs else text_of (text ++ b ∷ []) None bs
text_of text (Some name) (b ∷ bs) =
    if b == 59
    then option_and_then (λ character. text_of (text ++ character ∷ []) None bs) (character_of name)
    else text_of text (Some (name ++ b ∷ [])) bs

-- the next byte is a quote
unfoldable pub quote_at : Place → Result (ℕ × Place) Fault
quote_at place = quote_of place.rest
  where
    quote_of : List ℕ → Result (ℕ × Place) Fault
    quote_of [] = Err (fault_at place.line Syntax)
    quote_of (b ∷ bs) = if b == 34 || b == 39 then Ok (b, after 1 place) else Err (fault_at place.line Syntax)

-- what stands between two quotes, as it is spelled
unfoldable pub quoted_at : Place → Result (List ℕ × Place) Fault
quoted_at place = do
  quote ← quote_at place
  let count : ℕ = prefix_len (is_value_byte quote.0) quote.1.rest
  behind ← expected_at (quote.0 ∷ []) (after count quote.1)
  Ok (take count quote.1.rest, behind)

-- a value of at most so many bytes
unfoldable pub value_of : ℕ → Option (List ℕ) → Result (List ℕ) Fault
value_of line None = Err (fault_at line Syntax)
value_of line (Some text) = if nat_lt MAX_VALUE_LENGTH (length text) then Err (fault_at line Limit) else Ok text

-- a value between two quotes
unfoldable pub value_at : Place → Result (List ℕ × Place) Fault
value_at place = do
  spelled ← quoted_at place
  value ← value_of spelled.1.line (text_of [] None spelled.0)
  Ok (value, spelled.1)

-- `=`, with white space round it
unfoldable pub equals_at : Place → Result Place Fault
equals_at place = do
  behind ← expected_at (codes "=") (after_spaces place)
  Ok (after_spaces behind)
