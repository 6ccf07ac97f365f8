-- Parts of a table's lines: names, slots, and what may follow the object in a line for a capability.
use Rattle.std.specs.Prelude.{[], ℕ, ◌+◌, ◌==◌, ◌∷◌, List, None, Ok, Option, Some, codes, drop, if◌then◌else◌, option_map, position, take}
use Rattle.{std.specs.Str.bytes_eq, base.specs.{declared.rights.Rights.Rights, Rights.rights_of_word}}
use Rattle.words.specs.{Name.{name_at, name_of}, Number.{dec_of, hex_of}, Parts.{PartReader, in_turn}, Reading.{◌>>=◌, or_syntax, word_at}}
use Rattle.captext.specs.declared.shapes.{Place.Place, Term.Term}
use Rattle.captext.specs.declared.shapes.Place.TheVariants as place
use Rattle.captext.specs.declared.shapes.Term.TheVariants as term

-- the next two words as names
unfoldable pub names_at : PartReader (List ℕ × List ℕ)
names_at = in_turn name_at name_at

-- a slot of an object: by its index, or the root slot
unfoldable pub place_of : List ℕ → Option Place
place_of word = if bytes_eq word (codes "root") then Some place.Root else option_map place.Index (dec_of word)

-- a name and a place, where both are there
abbrev pub slot_with : Option (List ℕ) → Option Place → Option (List ℕ × Place)
slot_with None _ = None
slot_with (Some name) None = None
slot_with (Some name) (Some at) = Some (name, at)

-- the slot of a word whose first dot is there
abbrev pub slot_at_dot : List ℕ → Option ℕ → Option (List ℕ × Place)
slot_at_dot word None = None
slot_at_dot word (Some i) = slot_with (name_of (take i word)) (place_of (drop (i + 1) word))

-- a slot as it is spelled: its holder's name, a dot, and its place there
unfoldable pub slot_of : List ℕ → Option (List ℕ × Place)
slot_of word = slot_at_dot word (position (λ b. b == 46) word)

-- a slot, by its holder's name and its place there
abbrev pub NamedSlot : Type 0
NamedSlot = List ℕ × Place

-- the next word as a slot
unfoldable pub slot_at : PartReader NamedSlot
slot_at words = do
  word ← word_at words
  slot ← or_syntax (slot_of word.0)
  Ok (slot, word.1)

-- the first of these that is there
abbrev pub first_term : Option Rights → Option ℕ → Option ℕ → Option Term
first_term (Some rights) decimal hexadecimal = Some (term.Rights rights)
first_term None (Some n) hexadecimal = Some (term.Decimal n)
first_term None None hexadecimal = option_map term.Hexadecimal hexadecimal

-- rights, a decimal number or a hexadecimal number
unfoldable pub term_of : List ℕ → Option Term
term_of word = first_term (rights_of_word word) (dec_of word) (hex_of word)

-- the next word as a term, if a word is left
unfoldable pub term_at : PartReader (Option Term)
term_at [] = Ok (None, [])
term_at (word ∷ rest) = do
  term ← or_syntax (term_of word)
  Ok (Some term, rest)

-- at most two terms
unfoldable pub terms_at : PartReader (Option Term × Option Term)
terms_at = in_turn term_at term_at
