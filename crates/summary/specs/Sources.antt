-- The sources of each label, which are the labels with an edge of a kind to it; and unions of sources (confine's own).
use Rattle.std.specs.Prelude.{ℕ, ◌<◌, ◌↔◌, ◌≡◌, List, get_or, length, true}
use Rattle.base.specs.{declared.{edge.Edge.Edge, kind.Kind.Kind, labels.Labels.Labels}, Labels.{is_in, no_labels}}
use Rattle.base.specs.declared.label.TheConstants.Label as Label
use Rattle.policy.specs.Domain.{EdgeTest}

-- the edges of a policy, of one kind
pub record SourcesOf : Type 0 where
  pub edges : List Edge
  pub kind : Kind

abbrev pub row_at : List Labels → ℕ → Labels
row_at rows label = get_or rows label no_labels

-- the row of each label has those with an edge of the kind to it
pub record IsSources (test : EdgeTest) (kind : Kind) (rows : List Labels) : Type 0 where
  pub count : length rows ≡ Label.COUNT
  pub each : (to : ℕ) → to < Label.COUNT → (from : ℕ) → (is_in (row_at rows to) from ≡ true) ↔ (test from kind to ≡ true)

-- a label is in the row of a label of the set
pub record IsJoint (rows : List Labels) (set : Labels) (label : ℕ) : Type 0 where
  pub at : ℕ
  pub among : is_in set at ≡ true
  pub there : at < length rows
  pub has : is_in (row_at rows at) label ≡ true
