-- A system as one side of a comparison: what its labels are, and what they may do (confine's own).
use Rattle.std.specs.{List.find, Prelude.{ℕ, ◌&&◌, ◌==◌, Bool, List, None, Option, Some, false, if◌then◌else◌}}
use Rattle.{std.specs.Prelude.{is_none, is_some, length, nat_lt}, base.specs.{declared.kind.Kind.Kind, Labels.is_in}}
use Rattle.{policy.specs.Policy.allows, reach.specs.Reach.TableReach, summary.specs.{declared.rows.Row.Row, Regions.takes_from}}
use Rattle.diff.specs.declared.change.{Marks.Marks, Role.{Role, Role as role}}
use Rattle.diff.specs.declared.change.{Standing.{Standing, Standing as stands}, Verb.{Verb, Verb as verb}}

-- a system: its reach, and the rows of its matrix
pub record SideOf : Type 0 where
  pub reach : TableReach
  pub rows : List Row

-- the row of a label
abbrev pub row_in : List Row → ℕ → Option Row
row_in rows label = find (λ row. row.label == label) rows

-- the table has a label of this number
abbrev pub is_here : SideOf → ℕ → Bool
is_here side label = nat_lt label (length side.reach.table.labels)

-- the row of a program
abbrev pub row_at : SideOf → Option ℕ → Option Row
row_at side None = None
row_at side (Some label) = if is_here side label then row_in side.rows label else None

-- a label itself, if it has no thread
abbrev pub region_at : SideOf → Option ℕ → Option ℕ
region_at side None = None
region_at side (Some label) = if is_here side label && is_none (row_in side.rows label) then Some label else None

-- what a label is
abbrev pub standing : SideOf → Option ℕ → Standing
standing side label =
    if is_some (row_at side label) then stands.Program else (if is_some (region_at side label) then stands.Label else stands.Absent)

-- the cell of a program and itself, and of what isn't a program
abbrev pub no_marks : Marks
no_marks =
    record { changes = false; calls = false; answers = false; signals = false; others = false; takes = false; shares = false }

-- what a row says of another program
abbrev pub marks_of : Row → ℕ → Marks
marks_of row l = record {
  changes = is_in row.changes l;
  calls = is_in row.calls l;
  answers = is_in row.answers l;
  signals = is_in row.signals l;
  others = is_in row.others l;
  takes = takes_from row l;
  shares = is_in row.shares l;
}

abbrev pub marks_between : Option Row → Option Row → Marks
marks_between (Some row) (Some other) = if row.label == other.label then no_marks else marks_of row other.label
marks_between _ _ = no_marks

-- what threads of one program may do to objects of another
abbrev pub cell : SideOf → Option ℕ → Option ℕ → Marks
cell side from to = marks_between (row_at side from) (row_at side to)

-- what a row says of a label without a thread
abbrev pub use_in : Verb → Row → ℕ → Bool
use_in verb.Changes row l = is_in row.changes l
use_in verb.Takes row l = takes_from row l
use_in verb.Reads row l = is_in row.reads l

abbrev pub use_between : Verb → Option Row → Option ℕ → Bool
use_between how (Some row) (Some label) = use_in how row label
use_between how _ _ = false

-- whether a program does this to a label without a thread
abbrev pub uses : SideOf → Verb → Option ℕ → Option ℕ → Bool
uses side how from to = use_between how (row_at side from) (region_at side to)

-- whether a label is this
abbrev pub has_role : SideOf → Role → Option ℕ → Bool
has_role side is None = false
has_role side role.Keeper (Some label) = is_in side.reach.keepers label
has_role side role.Actor (Some label) = is_in side.reach.actors label

-- whether the reach has an edge between two labels
abbrev pub has_edge : SideOf → Option ℕ → Kind → Option ℕ → Bool
has_edge side (Some from) kind (Some to) = allows side.reach.policy from kind to
has_edge side _ kind _ = false
