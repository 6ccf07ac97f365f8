use Rattle.std.{specs.List.{filter, range_with_len}, proofs.Common.{◌≡◌, map}}
use Rattle.policy.specs.{Policy.allows, Rows.edge_at}
use Rattle.policy.proofs.policy.Policy.edges.Given as goal

-- the edges so far that the policy allows
abbrev pub invariant-loop-number : goal.invariant-loop-number
invariant-loop-number l =
    l.edges.items ≡ filter (λ edge. allows l.self edge.from edge.kind edge.to) (map (edge_at l.labels) (range_with_len 0 l.number))
