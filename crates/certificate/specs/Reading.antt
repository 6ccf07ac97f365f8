-- The reading of a certificate's line: first its words, by their form, then the names in them, by a capability table (confine's own).
use Rattle.std.specs.Prelude.{[], ℕ, ◌&&◌, ◌++◌, ◌∷◌, Bool, List, Ok, Option, Result, Some, codes, false, true}
use Rattle.base.specs.declared.{ids.{ObjId.ObjId, SlotRef.SlotRef}, kind.Kinds.Kinds}
use Rattle.words.specs.{declared.faults.{Fault.Fault, Wrong.{Wrong, Wrong as wrong}}, Name.name_at, Parts.{PartReader, in_turn, keyed}}
use Rattle.words.specs.{Parts.read_as, Reading.{◌>>=◌, Format, ended_at, list_format, read_format}, Text.{lines_of, words_of}}
use Rattle.machine.specs.{declared.object.ObjectKind.{ObjectKind, ObjectKind as kind}, Layout.Layout}
use Rattle.table.specs.{Building.declares_slot, Names.label_named, Rules.kind_at}
use Rattle.captext.specs.{declared.shapes.Place.Place, Shapes.{NamedSlot, slot_at}, Tables.{demand, fits_holder, is_thread_and_context}}
use Rattle.{captext.specs.Tables.{named, slot_in, value_or}, certificate.specs.{declared.line.Line.Line, Kinds.kinds_at}}
use Rattle.captext.specs.declared.shapes.Place.TheVariants as place
use Rattle.certificate.specs.declared.line.Line.TheVariants as line

-- the labels of a line, by their names
abbrev pub NamedLabels : Type 0
NamedLabels = List ℕ × List ℕ

-- a line by the names in it
pub data NamedLine : Type 0 where
  NamedCap : NamedSlot × (List ℕ × (Kinds × List ℕ)) → NamedLine
  NamedSpace : NamedSlot × NamedLabels → NamedLine
  NamedDerive : NamedSlot × (NamedSlot × NamedLabels) → NamedLine
  NamedRuns : List ℕ × (List ℕ × NamedLabels) → NamedLine

-- SLOT LABEL KINDS LABEL
unfoldable pub cap_at : PartReader NamedLine
cap_at = read_as NamedCap (in_turn slot_at (in_turn name_at (in_turn kinds_at name_at)))

-- SLOT LABEL LABEL
unfoldable pub space_at : PartReader NamedLine
space_at = read_as NamedSpace (in_turn slot_at (in_turn name_at name_at))

-- SLOT SLOT LABEL LABEL
unfoldable pub derive_at : PartReader NamedLine
derive_at = read_as NamedDerive (in_turn slot_at (in_turn slot_at (in_turn name_at name_at)))

-- TCB CONTEXT LABEL LABEL
unfoldable pub runs_at : PartReader NamedLine
runs_at = read_as NamedRuns (in_turn name_at (in_turn name_at (in_turn name_at name_at)))

-- the words of a line, by its first word
unfoldable pub named_line_at : PartReader NamedLine
named_line_at =
    keyed ((codes "cap", cap_at) ∷ (codes "space", space_at) ∷ (codes "derive", derive_at) ∷ (codes "runs", runs_at) ∷ [])

-- the labels of these names
unfoldable pub labels_named : Layout → List ℕ → List ℕ → Result (ℕ × ℕ) Wrong
labels_named t from to = do
  one ← value_or wrong.UnknownName (label_named t from)
  other ← value_or wrong.UnknownName (label_named t to)
  Ok (one, other)

-- a place in a CNode
abbrev pub is_in_cnode : Option ObjectKind → Place → Bool
is_in_cnode (Some kind.CNode) (place.Index _) = true
is_in_cnode _ _ = false

-- a thread's root slot
abbrev pub is_root : Option ObjectKind → Place → Bool
is_root (Some kind.Tcb) place.Root = true
is_root _ _ = false

-- a slot that the table declares
unfoldable pub declared : Layout → ObjId → Place → Result SlotRef Wrong
declared t holder at = do
  _ ← demand (declares_slot t (slot_in holder at)) wrong.Limit
  Ok (slot_in holder at)

-- the line whose names these are
unfoldable pub line_named : Layout → NamedLine → Result Line Wrong
line_named t (NamedCap names) = do
  holder ← named t names.0.0
  labels ← labels_named t names.1.0 names.1.1.1
  _ ← demand (is_in_cnode (kind_at t holder) names.0.1) wrong.WrongKind
  slot ← declared t holder names.0.1
  Ok (line.Cap slot labels.0 names.1.1.0 labels.1)
line_named t (NamedSpace names) = do
  holder ← named t names.0.0
  labels ← labels_named t names.1.0 names.1.1
  _ ← demand (is_root (kind_at t holder) names.0.1) wrong.WrongKind
  slot ← declared t holder names.0.1
  Ok (line.Space slot labels.0 labels.1)
line_named t (NamedDerive names) = do
  above ← named t names.0.0
  below ← named t names.1.0.0
  labels ← labels_named t names.1.1.0 names.1.1.1
  _ ← demand (fits_holder (kind_at t above) names.0.1 && fits_holder (kind_at t below) names.1.0.1) wrong.WrongKind
  parent ← declared t above names.0.1
  child ← declared t below names.1.0.1
  Ok (line.Derive parent child labels.0 labels.1)
line_named t (NamedRuns names) = do
  thread ← named t names.0
  context ← named t names.1.0
  labels ← labels_named t names.1.1.0 names.1.1.1
  _ ← demand (is_thread_and_context (kind_at t thread) (kind_at t context)) wrong.WrongKind
  Ok (line.Runs thread context labels.0 labels.1)

-- the words of a line, and nothing after them, as the line
unfoldable pub line_by : PartReader NamedLine → Layout → List (List ℕ) → Result Line Wrong
line_by part t words = do
  names ← part words
  _ ← ended_at names.1
  line_named t names.0

abbrev pub line_of : Layout → List (List ℕ) → Result Line Wrong
line_of = line_by named_line_at

-- a line joins those before it
abbrev pub line_step : Layout → List Line → List (List ℕ) → Result (List Line) Wrong
line_step t lines words = do
  line ← line_of t words
  Ok (lines ++ line ∷ [])

-- certificates for a table, line by line
abbrev pub certificate_format : Layout → Format (List Line) (List Line)
certificate_format t = list_format (words_of (codes "confine-cert 1")) (line_step t)

-- the certificate that a text spells for a table, or its first fault
unfoldable pub read_certificate_of : Layout → List ℕ → Result (List Line) Fault
read_certificate_of t bytes = read_format (certificate_format t) (lines_of bytes)
