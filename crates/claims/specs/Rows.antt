-- The rows of a system: how far each label goes with each label (confine's own).
use Rattle.std.specs.Prelude.{ℕ, ◌↔◌, ◌≡◌, Some, get_or, if◌then◌else◌, slice_get, true}
use Rattle.base.specs.Labels.{is_in, no_labels}
use Rattle.reach.specs.{declared.extent.Extent.{Extent, Extent as extent}, Extents.{MayChangeIn, MayShrinkIn, Limits}}
use Rattle.claims.specs.{declared.rows.{Row.Row, Rows.Rows}, Strongest.Extents}

-- these are the labels whose objects threads of a label may change, and those whose objects they may make smaller
pub record IsRow (limits : Limits) (a : ℕ) (row : Row) : Type 0 where
  pub changed : (l : ℕ) → (is_in row.changed l ≡ true) ↔ MayChangeIn limits a l
  pub shrunk : (l : ℕ) → (is_in row.shrunk l ≡ true) ↔ MayShrinkIn limits a l

-- each label has its row at its number
abbrev pub AreRowsByLabel : Limits → Rows → Type 0
AreRowsByLabel limits rows = (a : ℕ) (row : Row) → slice_get rows.rows.items a ≡ Some row → IsRow limits a row

-- how far a row goes with a label
abbrev pub row_extent : Row → ℕ → Extent
row_extent row l = if is_in row.changed l then extent.Full else (if is_in row.shrunk l then extent.Take else extent.Nothing)

-- the row of a label that has none goes nowhere
abbrev pub no_row : Row
no_row = record { changed = no_labels; shrunk = no_labels }

-- how far each label goes with each by these rows
abbrev pub extents_of : Rows → Extents
extents_of rows a = row_extent (get_or rows.rows.items a no_row)
