-- The cell of a row and a label in the summary's matrix (confine's own).
use Rattle.std.specs.Prelude.{ℕ, ◌++◌, List, codes, if◌then◌else◌, not}
use Rattle.{base.specs.Labels.is_in, summary.specs.{declared.rows.Row.Row, Matrix.Cells, Padding.given}}

-- the letters of the reasons by which the row's label may change the other
abbrev pub letters : Row → ℕ → List ℕ
letters row l =
    given (is_in row.calls l) (codes "C") ++ (given (is_in row.answers l) (codes "A")
    ++ (given (is_in row.signals l) (codes "S") ++ given (is_in row.others l) (codes "F")))

-- the letters if the row's label may change the other; `t` if it may only make it smaller; else a dot, unless there is an `m`
abbrev pub extent_text : Row → ℕ → List ℕ
extent_text row l =
    if is_in row.changes l then letters row l else (if is_in row.shrinks l then codes "t" else given (not (is_in row.shares l)) (codes "."))

-- the whole cell: an `m` is added if the other has memory that the row's label may write
abbrev pub marks : Row → ℕ → List ℕ
marks row l = extent_text row l ++ given (is_in row.shares l) (codes "m")

abbrev pub cells : Cells Row
cells = record { number = λ row. row.number; label = λ row. row.label; cell = λ row other. marks row other.label }
