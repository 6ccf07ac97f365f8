-- The text of a matrix of programs (confine's own): blocks of columns, each with a head, and a line for each row.
use Rattle.std.specs.{Fmt.decimal, List.{flat_map, fold, range_with_len}}
use Rattle.std.specs.Prelude.{[], ℕ, ◌%◌, ◌++◌, ◌-◌, ◌/◌, ◌==◌, List, codes, drop, if◌then◌else◌, length, max, take}
use Rattle.{machine.specs.Layout.Layout, captext.specs.PolicyText.label_name}
use Rattle.summary.specs.{declared.page.Page.Page, Padding.{given, pad_left, pad_right}}

-- the number and the label of a row, and the text of its cell in the column of another row
pub record Cells (R : Type 0) : Type 0 where
  pub number : R → ℕ
  pub label : R → ℕ
  pub cell : R → R → List ℕ

-- the parts of a line, for rows of some kind

module _ {R : Type 0} (cells : Cells R) where
  -- the cell of a row in the column of another, six wide
  abbrev pub cell_text : R → R → List ℕ
  cell_text row other = pad_left 6 (if cells.label row == cells.label other then codes "=" else cells.cell row other)

  -- the number of a column, six wide
  abbrev pub number_text : R → List ℕ
  number_text other = pad_left 6 (decimal (cells.number other))

  -- the length of the longest name
  abbrev pub longest_name : Layout → List R → ℕ
  longest_name t rows = fold (λ longest row. max longest (length (label_name t (cells.label row)))) 0 rows

  -- the widths of numbers and names
  abbrev pub page_of : Layout → List R → Page
  page_of t rows = record { numbers = length (decimal (length rows)); names = longest_name t rows }

-- the number of columns for which a line of 140 has room
abbrev pub columns : Page → ℕ
columns page = max (((139 - page.numbers) - page.names) / 6) 1

-- the columns of the block that begins with this row
abbrev pub shown_from : {R : Type 0} → Page → List R → ℕ → List R
shown_from page rows first = take (columns page) (drop first rows)

-- the beginning of a line
abbrev pub start_text : Page → List ℕ → List ℕ → List ℕ
start_text page number name = pad_left page.numbers number ++ (codes " " ++ pad_right page.names name)

-- the lines and blocks, for rows of some kind

module _ {R : Type 0} (cells : Cells R) where
  -- the head of a block: the numbers of its columns
  abbrev pub head_text : Page → List R → List ℕ
  head_text page shown = start_text page [] [] ++ (flat_map (number_text cells) shown ++ codes "\n")

  -- the line of a row
  abbrev pub line_text : Layout → Page → List R → R → List ℕ
  line_text t page shown row =
      start_text page (decimal (cells.number row)) (label_name t (cells.label row)) ++ (flat_map (cell_text cells row) shown ++ codes "\n")

  -- a block, after an empty line
  abbrev pub block_text : Layout → Page → List R → List R → List ℕ
  block_text t page rows shown = codes "\n" ++ (head_text page shown ++ flat_map (line_text t page shown) rows)

  -- the block whose first column is this row, if a block begins there
  abbrev pub block_from : Layout → Page → List R → ℕ → List ℕ
  block_from t page rows first = given (first % columns page == 0) (block_text t page rows (shown_from page rows first))

  abbrev pub blocks_text : Layout → Page → List R → List ℕ
  blocks_text t page rows = flat_map (block_from t page rows) (range_with_len 0 (length rows))

  abbrev pub matrix_text : Layout → List R → List ℕ
  matrix_text t rows = blocks_text t (page_of cells t rows) rows
