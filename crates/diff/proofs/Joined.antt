-- The reach of a table joins none but its labels: the policy with every edge between these is closed, and has all authority of boot.
use Rattle.std.{specs.List.AllByRecursion, proofs.Common.{ℕ, ◌<◌, ◌≡◌, List, get_or, length, refl, true}}
use Rattle.std.proofs.lemmas.List.{Elements.recursion_from_All, Folds.list_any_at}
use Rattle.{base.specs.declared.{edge.Edge.Edge, kind.Kind.Kind}, machine.specs.Layout.Layout, table.specs.Rules.IsLawful}
use Rattle.{policy.{specs.Policy.{allows, is_edge}, proofs.RowEdges.of_parts}, labels.proofs.BootLabels.authority_within}
use Rattle.reach.{specs.Reach.IsReach, proofs.{Among.{all_closed, among, joined, joins}, LeastReach.closed_within}}

module _ (t : Layout) (lawful : IsLawful t) (edges : List Edge) (reach : IsReach t edges) where
  within : (from : ℕ) (kind : Kind) (to : ℕ) → allows edges from kind to ≡ true → (from < length t.labels) × (to < length t.labels)
  within from kind to there =
      joined (length t.labels) from kind to
      (closed_within t edges (among (length t.labels)) reach (all_closed (length t.labels))
      (λ boot booted f k e has.
      let below = authority_within t boot lawful booted has in joins (length t.labels) f k e below.0 below.1)
      from kind to there)

  -- each of its edges is one of it, and joins two labels
  abbrev pub IsOne : Edge → Type 0
  IsOne edge =
      (edge.from < length t.labels) × (edge.to < length t.labels) × (allows edges edge.from edge.kind edge.to ≡ true)

  pub each_joins : AllByRecursion IsOne edges
  unfolding allows
  each_joins =
      recursion_from_All IsOne edges
      (λ i d below.
      let edge = get_or edges i d in
      let there = list_any_at (is_edge edge.from edge.kind edge.to) edges i d below (of_parts edge edge.from edge.kind edge.to refl refl refl) in
      let ends = within edge.from edge.kind edge.to there in
      (ends.0, ends.1, there))
