-- A policy as rows of bits: for each label and kind, the set of labels to which there is an edge (confine's own).
use Rattle.std.specs.{List.range_with_len, Ordering.is_lt, Prelude.{ℕ, ◌%◌, ◌*◌, ◌+◌, ◌/◌, ◌<◌, ◌≡◌, ◌≤◌, List}}
use Rattle.std.specs.Prelude.{None, Option, Some, filter, if◌then◌else◌, length, map, slice_index_or, true}
use Rattle.base.specs.declared.{edge.Edge.Edge, kind.{Kind.{Kind, TheVariants.Control}, TheConstants.Kind.ALL}, labels.Labels.Labels}
use Rattle.{base.specs.{Kinds.kind_number, Labels.{is_in, no_labels}}, policy.specs.Policy.{edge_cmp, last_edge}}
use Rattle.base.specs.declared.label.TheConstants.Label as Label

abbrev pub kind_count : ℕ
kind_count = 17

-- the place of the row of a label and a kind
abbrev pub row_number : ℕ → Kind → ℕ
row_number from kind = from * kind_count + kind_number kind

abbrev pub row_count : ℕ
row_count = Label.COUNT * kind_count

-- the row of a label and a kind; a row that isn't kept is empty
abbrev pub row_of : List Labels → ℕ → Kind → Labels
row_of rows from kind = slice_index_or rows (row_number from kind) no_labels

-- the number of possible edges between this many labels
unfoldable pub edge_count : ℕ → ℕ
edge_count labels = labels * (labels * kind_count)

-- a possible edge between this many labels, by its number in the order of edges
unfoldable pub edge_at : ℕ → ℕ → Edge
edge_at labels number =
    record { from = number / labels / kind_count; kind = slice_index_or ALL (number / labels % kind_count) Control; to = number % labels }

unfoldable pub all_edges : ℕ → List Edge
all_edges labels = map (edge_at labels) (range_with_len 0 (edge_count labels))

-- the edges that rows stand for, in their order
unfoldable pub edges_of_rows : List Labels → List Edge
edges_of_rows rows = filter (λ edge. is_in (row_of rows edge.from edge.kind) edge.to) (all_edges Label.COUNT)

-- the last edge after an edge is added
abbrev pub last_with : Option Edge → Edge → Edge
last_with None edge = edge
last_with (Some last) edge = if is_lt (edge_cmp edge last) then last else edge

-- each nonempty row is of a label below a number, and has labels below it
abbrev pub RowsJoin : ℕ → List Labels → Type 0
RowsJoin number rows = (from : ℕ) (kind : Kind) (to : ℕ) → is_in (row_of rows from kind) to ≡ true → (from < number) × (to < number)

-- what a policy keeps: at most a row for each label and kind, its last edge, and a number above the labels that edges join
pub record KeepsRows (rows : List Labels) (last : Option Edge) (span : ℕ) : Type 0 where
  pub count : length rows ≤ row_count
  pub few : span ≤ Label.COUNT
  pub labels : RowsJoin span rows
  pub greatest : last ≡ last_edge (edges_of_rows rows)
