-- The rows of the matrix: what a label with a thread may do to others, and reads of them (confine's own).
use Rattle.std.specs.{List.range_with_len, Prelude.{ℕ, ◌↔◌, ◌≡◌, All, List, length, map, true}}
use Rattle.{base.specs.Labels.is_in, machine.specs.Layout.Layout}
use Rattle.reach.specs.{Extents.{Limits, MayChangeIn, MayShrinkIn, limits_of}, Reach.TableReach}
use Rattle.summary.specs.{declared.rows.Row.Row, Labelled.programs_of}
use Rattle.summary.specs.{Letters.{HasLetter, by_answer, by_call, by_other, by_signal}, Sharing.{SharesMemory, reads_of}}

-- a row says what threads of its label may do to objects of each other label
pub record IsRowOf (t : Layout) (limits : Limits) (row : Row) : Type 0 where
  pub calls : (l : ℕ) → (is_in row.calls l ≡ true) ↔ HasLetter by_call limits row.label l
  pub answers : (l : ℕ) → (is_in row.answers l ≡ true) ↔ HasLetter by_answer limits row.label l
  pub signals : (l : ℕ) → (is_in row.signals l ≡ true) ↔ HasLetter by_signal limits row.label l
  pub others : (l : ℕ) → (is_in row.others l ≡ true) ↔ HasLetter by_other limits row.label l
  pub changes : (l : ℕ) → (is_in row.changes l ≡ true) ↔ MayChangeIn limits row.label l
  pub shrinks : (l : ℕ) → (is_in row.shrinks l ≡ true) ↔ MayShrinkIn limits row.label l
  pub shares : (l : ℕ) → (is_in row.shares l ≡ true) ↔ SharesMemory t limits.test row.label l
  pub reads : (l : ℕ) → is_in row.reads l ≡ reads_of limits.test row.label l

-- the rows are those of the labels with a thread, numbered from 1
pub record AreRowsOf (t : Layout) (limits : Limits) (rows : List Row) : Type 0 where
  pub labels : map (λ row. row.label) rows ≡ programs_of t
  pub numbers : map (λ row. row.number) rows ≡ range_with_len 1 (length rows)
  pub each : All (IsRowOf t limits) rows

-- the rows are those of the reach of a table
abbrev pub AreRows : TableReach → List Row → Type 0
AreRows reach = AreRowsOf reach.table (limits_of reach)
