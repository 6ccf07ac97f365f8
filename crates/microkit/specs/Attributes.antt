-- Values of an element's attributes (Microkit user manual, "System Description File").
use Rattle.std.specs.{Prelude.{[], ℕ, ◌∷◌, Bool, List, None, Option, Some, if◌then◌else◌, option_and_then, unwrap_or}, Str.bytes_eq}
use Rattle.{xml.specs.{Document.Node, Tag.Pair}, microkit.specs.Values.{flag_of, number_of}}

-- the value of the attribute of this name
unfoldable pub value_among : List Pair → List ℕ → Option (List ℕ)
value_among [] name = None
value_among (pair ∷ pairs) name = if bytes_eq pair.name name then Some pair.value else value_among pairs name

abbrev pub value_in : Node → List ℕ → Option (List ℕ)
value_in node name = value_among node.attributes name

-- a text, which is empty if the attribute is missing
abbrev pub text_in : Node → List ℕ → List ℕ
text_in node name = unwrap_or (value_in node name) []

-- a number
unfoldable pub number_in : Node → List ℕ → Option ℕ
number_in node name = option_and_then number_of (value_in node name)

-- a number, or its default
abbrev pub number_or : Node → List ℕ → ℕ → ℕ
number_or node name default = unwrap_or (number_in node name) default

-- a flag
unfoldable pub flag_in : Node → List ℕ → Option Bool
flag_in node name = option_and_then flag_of (value_in node name)

-- a flag, or its default
abbrev pub flag_or : Node → List ℕ → Bool → Bool
flag_or node name default = unwrap_or (flag_in node name) default
