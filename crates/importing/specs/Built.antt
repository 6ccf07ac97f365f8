-- Building up a table from a description: its labels, then one object after another (confine's own).
use Rattle.std.specs.{List.AllByRecursion, Prelude.{[], ℕ, ◌&&◌, ◌∷◌, ◌≤◌, Err, List, None, Ok, Option, Result, Some, if◌then◌else◌}}
use Rattle.{std.specs.Prelude.{is_some, length, nat_le, nat_lt, not, unwrap_or}, base.specs.declared.limits.TheConstants.ADDRESS_END}
use Rattle.words.specs.declared.faults.{Fault.Fault, Wrong.{TheVariants.{Double, Limit, UnknownName}, Wrong}}
use Rattle.words.specs.{Fault.fault_at, Name.name_of, Reading.◌>>=◌}
use Rattle.microkit.specs.{declared.{description.Map.Map, labels.Subject.Subject}, Description.Description, Names.object_name}
use Rattle.machine.specs.{declared.{layout.{Initial.Initial, Version.Version}, object.Object.Object}, Layout.{Layout, empty_layout}}
use Rattle.{machine.specs.Objects.end_of, table.specs.{Building.{has_room, with_initial}, Names.object_named}}
use Rattle.importing.specs.{declared.pieces.{Grant.Grant, Piece.Piece}, Groups.{leader_of, name_at}}
use Rattle.importing.specs.{Objects.object_of, Plan.{label_of, part_of, piece_line, subject_of}}
use Rattle.machine.specs.declared.layout.Version.TheVariants as version

-- the plan of a table: what has a name and which, the maps of regions if some share a label, and the subjects that have a label of their
-- own
pub record Plan : Type 0 where
  pub description : Description
  pub subjects : List Subject
  pub names : List (List ℕ)
  pub uses : List (List Map)
  pub places : List ℕ
  pub labelled : List Subject
  pub grants : List Grant

-- a table of which the labels and some objects were added, and the first address that is free
pub record Built : Type 0 where
  pub table : Layout
  pub next : ℕ

-- each object ends at an address, or below
abbrev pub EndBelow : List Initial → ℕ → Type 0
EndBelow objects next = AllByRecursion (λ (initial : Initial). end_of initial.object ≤ next) objects

-- more than 64 labels need version 2
abbrev pub version_for : ℕ → Version
version_for labels = if nat_le labels 64 then version.One else version.Two

-- the table of these labels, without objects
abbrev pub labelled : List (List ℕ) → Layout
labelled names = record (empty_layout (version_for (length names))) { labels = names }

abbrev pub started : List (List ℕ) → Built
started names = record { table = labelled names; next = 4096 }

-- what is there, or a fault if nothing is
abbrev pub or_fault : {X : Type 0} → ℕ → Wrong → Option X → Result X Fault
or_fault line wrong None = Err (fault_at line wrong)
or_fault line wrong (Some x) = Ok x

-- the table with one more object
abbrev pub with_object : Built → List ℕ → Initial → Built
with_object built name initial = record { table = with_initial built.table name initial; next = end_of initial.object }

-- one more object of this name, if the name is new (52), its label is there (51), and the table keeps within its limits (54)
unfoldable pub object_placed : ℕ → List ℕ → ℕ → Object → Built → Result Built Fault
object_placed line name label object built =
    if is_some (object_named built.table name) then Err (fault_at line Double) else
    if not (nat_lt label (length built.table.labels)) then Err (fault_at line UnknownName) else
    if not (has_room built.table object && nat_le (end_of object) ADDRESS_END) then Err (fault_at line Limit) else
    Ok (with_object built name (record { label = label; object = object }))

-- one more object, if the word is a name, as each word is whose label and number are within their limits
unfoldable pub object_added : ℕ → List ℕ → ℕ → Object → Built → Result Built Fault
object_added line word label object built = do
  name ← or_fault line Limit (name_of word)
  object_placed line name label object built

-- the number of a piece's label, if there is one
abbrev pub piece_label : Plan → Piece → Option ℕ
piece_label plan piece = label_of plan.labelled (leader_of plan.uses (subject_of plan.description piece))

-- the name of a piece's own subject, which its object is called by even if its label is another region's
abbrev pub piece_subject : Plan → Piece → List ℕ
piece_subject plan piece = name_at plan.names (unwrap_or (label_of plan.subjects (subject_of plan.description piece)) 0)

abbrev pub piece_name : Plan → Piece → List ℕ
piece_name plan piece = object_name (piece_subject plan piece) (part_of plan.description piece)

-- the table with the object of a piece
unfoldable pub piece_added : Plan → Piece → Built → Result Built Fault
piece_added plan piece built = do
  label ← or_fault (piece_line plan.description piece) UnknownName (piece_label plan piece)
  object ← or_fault (piece_line plan.description piece) Limit
      (object_of plan.description plan.grants piece built.next)
  object_added (piece_line plan.description piece) (piece_name plan piece) label object built

-- the objects of pieces, one after another
unfoldable pub pieces_added : Plan → List Piece → Built → Result Built Fault
pieces_added plan [] built = Ok built
pieces_added plan (piece ∷ pieces) built = piece_added plan piece built >>= λ next. pieces_added plan pieces next
