-- The labels so far have no edge that the claim excludes.
use Rattle.{machine.specs.Layout.Layout, table.specs.Names.AreLabelsOf, policy.specs.Policy.allows, claims.proofs.FirstEdge.LacksBelow}
use Rattle.claims.proofs.edges.first_edge.Given as goal

abbrev pub invariant-loop-number : goal.invariant-loop-number
invariant-loop-number l = (t : Layout) → AreLabelsOf t l.labels → LacksBelow t (allows l.policy) l.claim l.number
