-- The summary of a table's reach, as JSON: what its text says, with whole lists (confine's own).
use Rattle.std.specs.{List.flat_map, Prelude.{[], ℕ, ◌==◌, ◌∷◌, ◌≡◌, List, codes, if◌then◌else◌, map}, Str.bytes_eq}
use Rattle.serde_json.specs.{Data.{Data, array, member, no_members, object, string}, View.items_of}
use Rattle.{machine.specs.Layout.Layout, reach.specs.Reach.TableReach, captext.specs.PolicyText.label_name}
use Rattle.summary.specs.{declared.rows.Row.Row, Labelled.{others_of, programs_of}, Marks.marks}
use Rattle.{summary.specs.{Regions.{changers, readers, takers}, Rows.AreRows}, reptext.specs.Reports.{line_of, names_data}}

abbrev pub labels_data : Layout → List ℕ → Data
labels_data t labels = names_data (map (label_name t) labels)

-- a cell: the names of its row and its column, and its letters
abbrev pub cell_data : Layout → Row → Row → Data
cell_data t row other = names_data (label_name t row.label ∷ label_name t other.label ∷ marks row other.label ∷ [])

-- the entry of a cell: nothing for a label and itself, or for a dot
abbrev pub told_cell : Layout → Row → Row → List Data
told_cell t row other =
    if row.label == other.label then [] else (if bytes_eq (marks row other.label) (codes ".") then [] else cell_data t row other ∷ [])

abbrev pub cells_of : Layout → List Row → Row → List Data
cells_of t rows row = flat_map (told_cell t row) rows

-- a label without a thread: who changes it, who reads it, and who may only take from it
abbrev pub region_data : Layout → List Row → ℕ → Data
region_data t rows l =
    object (member (codes "changed_by") (labels_data t (changers rows l))
    (member (codes "label") (string (label_name t l))
    (member (codes "read_by") (labels_data t (readers rows l))
    (member (codes "taken_by") (labels_data t (takers rows l)) no_members))))

-- the summary of rows: their cells, the labels without a thread, and those with one
abbrev pub summary_data : Layout → List Row → Data
summary_data t rows =
    object (member (codes "cells") (array (items_of (flat_map (cells_of t rows) rows)))
    (member (codes "memory") (array (items_of (map (region_data t rows) (others_of t))))
    (member (codes "programs") (labels_data t (programs_of t)) no_members)))

-- a text is the summary of a system
pub record IsSummaryReport (reach : TableReach) (text : List ℕ) : Type 0 where
  pub rows : List Row
  pub are : AreRows reach rows
  pub is : text ≡ line_of (summary_data reach.table rows)
