-- Reasons as lists of edges, and their order, in which the first is told (confine's own).
use Rattle.std.specs.Prelude.{[], ℕ, ◌∷◌, List, length}
use Rattle.base.specs.{declared.{edge.Edge.Edge, kind.Kind.Kind}, Kinds.kind_number}

abbrev pub edge : ℕ → Kind → ℕ → Edge
edge from kind to = record { from = from; kind = kind; to = to }

abbrev pub edge_numbers : List Edge → List ℕ
edge_numbers [] = []
edge_numbers (edge ∷ edges) = edge.from ∷ kind_number edge.kind ∷ edge.to ∷ edge_numbers edges

-- the order of reasons: one with fewer edges first, and of equally long ones the one whose first differing edge is less
abbrev pub reason_place : List Edge → List ℕ
reason_place edges = length edges ∷ edge_numbers edges
