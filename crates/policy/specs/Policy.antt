-- Policies as rising lists of edges: the order of edges, and the edges that a policy allows
-- ('seL4 Enforces Integrity', section 3, where a policy is a graph of labels).
use Rattle.std.specs.{declared.cmp.Ordering.{Ordering, TheVariants.Less}, List.{list_any, Sorted.IsStrictlySortedBy}, Ordering.nat_cmp}
use Rattle.std.specs.{Ordering.{on, then_cmp}, Prelude.{ℕ, ◌&&◌, ◌-◌, ◌<◌, ◌==◌, ◌≡◌, Bool, IfSome, List, Option, length, slice_get, true}}
use Rattle.base.specs.{declared.{edge.Edge.Edge, kind.Kind.Kind}, Kinds.kind_number}
use Rattle.base.specs.declared.label.TheConstants.Label as Label

-- by label, then kind, then label
abbrev pub edge_cmp : Edge → Edge → Ordering
edge_cmp =
    then_cmp (on (λ edge. edge.from) nat_cmp)
    (then_cmp (on (λ edge. kind_number edge.kind) nat_cmp) (on (λ edge. edge.to) nat_cmp))

-- each edge is below those after it, so none is there twice
abbrev pub IsRising : List Edge → Type 0
IsRising edges = IsStrictlySortedBy edge_cmp edges

-- whether an edge is the one from this label, of this kind, to that label
abbrev pub is_edge : ℕ → Kind → ℕ → Edge → Bool
is_edge from kind to edge = (edge.from == from) && ((kind_number edge.kind == kind_number kind) && (edge.to == to))

unfoldable pub allows : List Edge → ℕ → Kind → ℕ → Bool
allows edges from kind to = list_any (is_edge from kind to) edges

-- each edge joins two labels below a number
abbrev pub JoinsBelow : ℕ → List Edge → Type 0
JoinsBelow number edges = (from : ℕ) (kind : Kind) (to : ℕ) → allows edges from kind to ≡ true → (from < number) × (to < number)

-- each edge joins two possible labels
abbrev pub JoinsLabels : List Edge → Type 0
JoinsLabels edges = JoinsBelow Label.COUNT edges

-- what every policy keeps
pub record IsPolicy (edges : List Edge) : Type 0 where
  pub rising : IsRising edges
  pub labels : JoinsLabels edges

abbrev pub last_edge : List Edge → Option Edge
last_edge edges = slice_get edges (length edges - 1)

-- the edge is above the last edge, if there is one
abbrev pub IsAboveLast : List Edge → Edge → Type 0
IsAboveLast edges edge = IfSome (last_edge edges) (λ last. edge_cmp last edge ≡ Less)
