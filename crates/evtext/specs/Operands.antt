-- The operands of calls: how each is read off the words of a line, which words spell it, and which of its values can be spelled
-- (confine's own).
use Rattle.std.specs.{Fmt.decimal, List.slice_index, Option.option_map, Prelude.{[], ℕ, ◌++◌, ◌<◌, ◌^◌, ◌∷◌, List, None, Ok, Option, Some, codes}}
use Rattle.std.specs.{Prelude.if◌then◌else◌, Str.bytes_eq}
use Rattle.base.specs.{declared.rights.Rights.Rights, Rights.{IsRights, rights_of_word, rights_word}}
use Rattle.machine.specs.declared.{call.CapData.{CapData, TheVariants.{Badge, Guard}}, object.MemoryKind.MemoryKind}
use Rattle.machine.specs.{declared.slot_address.SlotAddress.SlotAddress, KindWords.{memory_kind_of, memory_kind_word}}
use Rattle.words.specs.{Number.{dec_of, number_at}, Parts.{PartReader, in_turn, keyed, read_as}, Reading.{◌>>=◌, or_syntax, word_at}}

-- how a text has the values of a type: how one is read, which words spell it, and whether there are such words
pub record Shape (X : Type 0) : Type 1 where
  pub read : PartReader X
  pub spell : X → List (List ℕ)
  pub Fits : X → Type 0

-- one operand, and then others
abbrev pub both : {X Y : Type 0} → Shape X → Shape Y → Shape (X × Y)
both one other = record {
  read = in_turn one.read other.read;
  spell = λ parts. one.spell parts.0 ++ other.spell parts.1;
  Fits = λ parts. one.Fits parts.0 × other.Fits parts.1;
}

-- no operand
unfoldable pub nothing_at : PartReader (Unit {0})
nothing_at words = Ok (tt, words)

abbrev pub nothing : Shape (Unit {0})
nothing = record { read = nothing_at; spell = λ _. []; Fits = λ _. Unit {0} }

-- a number of 64 bits
abbrev pub number : Shape ℕ
number = record { read = number_at; spell = λ n. decimal n ∷ []; Fits = λ n. n < 2 ^ 64 }

abbrev pub two_numbers : Shape (ℕ × ℕ)
two_numbers = both number number

-- the slot of three numbers: root, index and depth
abbrev pub slot_address_of : ℕ × (ℕ × ℕ) → SlotAddress
slot_address_of parts = record { root = parts.0; index = parts.1.0; depth = parts.1.1 }

-- the next words as a slot
unfoldable pub slot_address_at : PartReader SlotAddress
slot_address_at = read_as slot_address_of (in_turn number_at (in_turn number_at number_at))

-- a slot as a call names it
abbrev pub slot_address_words : SlotAddress → List (List ℕ)
slot_address_words slot = decimal slot.root ∷ decimal slot.index ∷ decimal slot.depth ∷ []

-- a slot whose numbers are of 64 bits
abbrev pub IsSlotAddress : SlotAddress → Type 0
IsSlotAddress slot = (slot.root < 2 ^ 64) × (slot.index < 2 ^ 64) × (slot.depth < 2 ^ 64)

abbrev pub slot_address : Shape SlotAddress
slot_address = record { read = slot_address_at; spell = slot_address_words; Fits = IsSlotAddress }

-- the next word as a set of the four rights
unfoldable pub rights_at : PartReader Rights
rights_at words = do
  word ← word_at words
  rights ← or_syntax (rights_of_word word.0)
  Ok (rights, word.1)

-- a set of the four rights: further bits have no letter
abbrev pub rights : Shape Rights
rights = record { read = rights_at; spell = λ rights. rights_word rights ∷ []; Fits = IsRights }

-- the guard of two numbers: size and value
abbrev pub guard_of : ℕ × ℕ → CapData
guard_of parts = Guard parts.0 parts.1

-- the next words as what a mint gives
unfoldable pub data_at : PartReader CapData
data_at = keyed ((codes "badge", read_as Badge number_at) ∷ (codes "guard", read_as guard_of (in_turn number_at number_at)) ∷ [])

-- what a mint gives: `badge` and the badge, or `guard` with its size and value
abbrev pub data_words : CapData → List (List ℕ)
data_words (Badge badge) = codes "badge" ∷ decimal badge ∷ []
data_words (Guard size value) = codes "guard" ∷ decimal size ∷ decimal value ∷ []

-- a badge or a guard of 64-bit numbers
abbrev pub IsData : CapData → Type 0
IsData (Badge badge) = badge < 2 ^ 64
IsData (Guard size value) = (size < 2 ^ 64) × (value < 2 ^ 64)

abbrev pub data_given : Shape CapData
data_given = record { read = data_at; spell = data_words; Fits = IsData }

-- the next word as a kind of object that is made of memory
unfoldable pub memory_kind_at : PartReader MemoryKind
memory_kind_at words = do
  word ← word_at words
  kind ← or_syntax (memory_kind_of word.0)
  Ok (kind, word.1)

abbrev pub memory_kind : Shape MemoryKind
memory_kind = record { read = memory_kind_at; spell = λ kind. memory_kind_word kind ∷ []; Fits = λ _. Unit {0} }

-- the words of a message
abbrev pub four_of : ℕ × (ℕ × (ℕ × ℕ)) → List ℕ
four_of parts = parts.0 ∷ parts.1.0 ∷ parts.1.1.0 ∷ parts.1.1.1 ∷ []

-- the next words as the four words of a message
unfoldable pub four_at : PartReader (List ℕ)
four_at = read_as four_of (in_turn number_at (in_turn number_at (in_turn number_at number_at)))

abbrev pub four_words : List ℕ → List (List ℕ)
four_words words =
    decimal (slice_index words 0)
    ∷ decimal (slice_index words 1)
    ∷ decimal (slice_index words 2)
    ∷ decimal (slice_index words 3)
    ∷ []

-- four words of 64 bits
abbrev pub AreFour : List ℕ → Type 0
AreFour (first ∷ second ∷ third ∷ fourth ∷ []) = (first < 2 ^ 64) × (second < 2 ^ 64) × (third < 2 ^ 64) × (fourth < 2 ^ 64)
AreFour _ = ⊥

abbrev pub four : Shape (List ℕ)
four = record { read = four_at; spell = four_words; Fits = AreFour }

-- an address, or `-` for none
abbrev pub optional_of : List ℕ → Option (Option ℕ)
optional_of word = if bytes_eq word (codes "-") then Some None else option_map (λ n. Some n) (dec_of word)

-- the next word as an address, or `-` for none
unfoldable pub optional_at : PartReader (Option ℕ)
optional_at words = do
  word ← word_at words
  address ← or_syntax (optional_of word.0)
  Ok (address, word.1)

abbrev pub optional_word : Option ℕ → List ℕ
optional_word None = codes "-"
optional_word (Some address) = decimal address

-- an address of 64 bits, where there is one
abbrev pub IsOptional : Option ℕ → Type 0
IsOptional None = Unit {0}
IsOptional (Some address) = address < 2 ^ 64

abbrev pub optional : Shape (Option ℕ)
optional = record { read = optional_at; spell = λ address. optional_word address ∷ []; Fits = IsOptional }

-- the next words as a slot, or `-` for none
unfoldable pub optional_slot_at : PartReader (Option SlotAddress)
optional_slot_at words = do
  word ← word_at words
  if bytes_eq word.0 (codes "-") then Ok (None, word.1) else read_as (λ slot. Some slot) slot_address_at words

abbrev pub optional_slot_words : Option SlotAddress → List (List ℕ)
optional_slot_words None = codes "-" ∷ []
optional_slot_words (Some slot) = slot_address_words slot

abbrev pub IsOptionalSlot : Option SlotAddress → Type 0
IsOptionalSlot None = Unit {0}
IsOptionalSlot (Some slot) = IsSlotAddress slot

abbrev pub optional_slot : Shape (Option SlotAddress)
optional_slot = record { read = optional_slot_at; spell = optional_slot_words; Fits = IsOptionalSlot }
