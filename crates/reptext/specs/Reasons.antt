-- The authority of a label on another, as JSON: how far it goes, and the edges of a reason for it (confine's own).
use Rattle.std.specs.Prelude.{[], ℕ, List, codes, map}
use Rattle.{serde_json.specs.{Data.{Data, array, member, no_members, object, string}, View.items_of}, base.specs.declared.edge.Edge.Edge}
use Rattle.{machine.specs.Layout.Layout, policy.specs.declared.why.Why.{Why, Why as why}, reach.specs.declared.extent.Extent.Extent}
use Rattle.{captext.specs.PolicyText.label_name, reptext.specs.{Places.edge_names, Reports.{extent_word, names_data}}}
use Rattle.reach.specs.declared.extent.Extent.TheVariants as extent

-- an edge is its three words
abbrev pub edge_data : Layout → Edge → Data
edge_data t edge = names_data (edge_names t edge.from edge.kind edge.to)

-- one label goes this far with another, for a reason with these edges
abbrev pub reason_data : Layout → ℕ → ℕ → Extent → List Edge → Data
reason_data t a l far edges =
    object (member (codes "actor") (string (label_name t a))
    (member (codes "authority") (string (extent_word far))
    (member (codes "edges") (array (items_of (map (edge_data t) edges)))
    (member (codes "object") (string (label_name t l)) no_members))))

-- what one label may do to another
abbrev pub why_data : Layout → ℕ → ℕ → Why → Data
why_data t a l (why.Full edges) = reason_data t a l extent.Full edges.items
why_data t a l (why.Take edges) = reason_data t a l extent.Take edges.items
why_data t a l why.Nothing = reason_data t a l extent.Nothing []
