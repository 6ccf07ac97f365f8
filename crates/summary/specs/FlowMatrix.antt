-- The matrix of flows (confine's own): for each two programs, through how many others all flows from the one to the other go.
use Rattle.std.specs.{Fmt.decimal, List.range_with_len, Prelude.{[], ℕ, ◌++◌, ◌-◌, ◌<◌, ◌==◌}}
use Rattle.std.specs.Prelude.{◌∷◌, ◌≡◌, All, List, codes, get_or, if◌then◌else◌, length, map}
use Rattle.{base.specs.declared.labels.Labels.Labels, machine.specs.Layout.Layout}
use Rattle.reach.specs.{Extents.{Limits, limits_of}, Reach.TableReach}
use Rattle.flows.specs.{declared.smallest.Smallest.{Smallest, Smallest as smallest}, Sets.size_of, Smallest.{IsFilterSet, IsSmallest}}
use Rattle.summary.specs.{Labelled.programs_of, Matrix.{Cells, matrix_text}}
use Rattle.summary.specs.declared.{every_pair.TheConstants.HEAD, flow_sizes.{FlowRow.FlowRow, Size.{Size, Size as size}}}

-- how many programs the first of some sets has
abbrev pub first_size : List Labels → ℕ
first_size [] = 0
first_size (first ∷ sets) = size_of first

-- the size of the smallest sets
abbrev pub size_of_smallest : Smallest → Size
size_of_smallest smallest.Direct = size.Direct
size_of_smallest smallest.Larger = size.Larger
size_of_smallest (smallest.Fewest sets) = size.Programs (first_size sets.sets.items)

-- a size is that of the smallest sets of programs through which all flows from one label to another go
pub record IsSize (limits : Limits) (from to : ℕ) (size : Size) : Type 0 where
  pub sets : Smallest
  pub are : IsSmallest (IsFilterSet limits from to) 1 sets
  pub is : size ≡ size_of_smallest sets

-- the sizes for what flows from one label to each of these
pub record AreSizes (limits : Limits) (from : ℕ) (labels : List ℕ) (sizes : List Size) : Type 0 where
  pub count : length sizes ≡ length labels
  pub each : (k : ℕ) → k < length labels → IsSize limits from (get_or labels k 0) (get_or sizes k size.Direct)

-- a row has the sizes for its label
abbrev pub IsFlowRow : Limits → List ℕ → FlowRow → Type 0
IsFlowRow limits labels row = AreSizes limits row.label labels row.sizes.items

-- the rows are of these labels, numbered from 1
pub record AreToldRows (labels : List ℕ) (limits : Limits) (rows : List FlowRow) : Type 0 where
  pub are : map (λ row. row.label) rows ≡ labels
  pub numbers : map (λ row. row.number) rows ≡ range_with_len 1 (length rows)
  pub each : All (IsFlowRow limits labels) rows

-- the size in the column of a number
abbrev pub size_at : FlowRow → ℕ → Size
size_at row number = get_or row.sizes.items (number - 1) size.Direct

-- what a cell says: nothing flows, or through so many programs
abbrev pub count_text : ℕ → List ℕ
count_text count = if count == 0 then codes "." else decimal count

abbrev pub size_text : Size → List ℕ
size_text size.Direct = codes "d"
size_text size.Larger = codes "+"
size_text (size.Programs count) = count_text count

-- the cells of the rows
abbrev pub cells : Cells FlowRow
cells = record { number = λ row. row.number; label = λ row. row.label; cell = λ row other. size_text (size_at row other.number) }

-- the text of rows
abbrev pub flow_matrix_text : Layout → List FlowRow → List ℕ
flow_matrix_text t [] = codes "no label has a thread\n"
flow_matrix_text t (row ∷ rows) = HEAD.now ++ matrix_text cells t (row ∷ rows)

-- a text is the matrix of the flows by a reach, between the labels with a thread
pub record IsFlowMatrix (reach : TableReach) (text : List ℕ) : Type 0 where
  pub rows : List FlowRow
  pub are : AreToldRows (programs_of reach.table) (limits_of reach) rows
  pub is : text ≡ flow_matrix_text reach.table rows
