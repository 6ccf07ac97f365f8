-- Sets of kinds of authority as certificates spell them: the names of their kinds, rising by number, with commas between them
-- (confine's own).
use Rattle.std.specs.{Int.RustNames.bit_or, List.{join_with_byte, slice_split}, Prelude.{[], ℕ, ◌<◌, ◌==◌, ◌^◌, ◌∷◌, List, Ok, Result}}
use Rattle.std.specs.Prelude.{filter, fold, map, nat_lt}
use Rattle.base.specs.{declared.kind.{Kind.Kind, Kinds.Kinds, TheConstants.Kind.ALL}, Kinds.{is_among, kind_bit, kind_name, kind_named}}
use Rattle.words.specs.{declared.faults.Wrong.{Wrong, Wrong as wrong}, Parts.PartReader, Reading.{◌>>=◌, or_syntax, word_at}}
use Rattle.captext.specs.Tables.{demand}

-- the kinds of a set, by their numbers
abbrev pub members : Kinds → List Kind
members kinds = filter (is_among kinds.0) ALL

-- a set and one kind more
abbrev pub with_kind : Kinds → Kind → Kinds
with_kind kinds kind = record { 0 = bit_or kinds.0 (kind_bit kind) }

-- the set of these kinds
abbrev pub set_of : List Kind → Kinds
set_of kinds = fold with_kind (record { 0 = 0 }) kinds

-- the names of its kinds, with commas between them
unfoldable pub kinds_word : Kinds → List ℕ
kinds_word kinds = join_with_byte 44 (map kind_name (members kinds))

-- a set that has a word: it has at least one of the kinds, and nothing else
abbrev pub IsKinds : Kinds → Type 0
IsKinds kinds = (0 < kinds.0) × (kinds.0 < 2 ^ 17)

-- a set and the kind of this name, which has to rise above those of the set
unfoldable pub with_name : Kinds → List ℕ → Result Kinds Wrong
with_name kinds name = do
  kind ← or_syntax (kind_named name)
  _ ← demand (nat_lt kinds.0 (kind_bit kind)) wrong.Syntax
  Ok (with_kind kinds kind)

-- a set and the kinds of these names
unfoldable pub with_names : Kinds → List (List ℕ) → Result Kinds Wrong
with_names kinds [] = Ok kinds
with_names kinds (name ∷ names) = do
  more ← with_name kinds name
  with_names more names

-- the set that a word spells
unfoldable pub kinds_of : List ℕ → Result Kinds Wrong
kinds_of word = with_names (set_of []) (slice_split (λ b. b == 44) word)

-- the next word as a set of kinds
unfoldable pub kinds_at : PartReader Kinds
kinds_at words = do
  word ← word_at words
  kinds ← kinds_of word.0
  Ok (kinds, word.1)
