-- The text of a policy for a table's labels: a header, a line `edge FROM KIND TO` for each edge, and `end` (confine's own; the
-- edges are those of 'seL4 Enforces Integrity', section 3).
use Rattle.std.specs.{List.AllByRecursion, Prelude.{[], ℕ, ◌<◌, ◌∷◌, List, codes, length, map, slice_index_or}}
use Rattle.{base.specs.{declared.edge.Edge.Edge, Kinds.kind_name}, words.specs.{Reading.list_text, Text.{text_of, words_of}}}
use Rattle.{machine.specs.Layout.Layout, policy.specs.Policy.IsRising}

abbrev pub policy_header : List (List ℕ)
policy_header = words_of (codes "confine-policy 1")

-- the name of a label of the table
abbrev pub label_name : Layout → ℕ → List ℕ
label_name t label = slice_index_or t.labels label []

abbrev pub edge_words : Layout → Edge → List (List ℕ)
edge_words t edge = codes "edge" ∷ label_name t edge.from ∷ kind_name edge.kind ∷ label_name t edge.to ∷ []

abbrev pub edge_lines : Layout → List Edge → List ℕ
edge_lines t edges = text_of (map (edge_words t) edges)

abbrev pub policy_text : Layout → List Edge → List ℕ
policy_text t = list_text policy_header (edge_words t)

-- an edge between labels of the table
abbrev pub IsEdgeOf : Layout → Edge → Type 0
IsEdgeOf t edge = (edge.from < length t.labels) × (edge.to < length t.labels)

-- the edges of a policy for the table: they rise, and each is between labels of the table
abbrev pub IsPolicyOf : Layout → List Edge → Type 0
IsPolicyOf t edges = IsRising edges × AllByRecursion (IsEdgeOf t) edges
