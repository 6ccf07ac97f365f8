use Rattle.std.proofs.Common.{◌<◌}
use Rattle.{base.specs.declared.edge.Edge.Edge, policy.specs.{Policy.allows, Walks.Leads}}
use Rattle.policy.proofs.policy.Policy.first_edge.Given as goal

-- the step leads there by none of the edges that the labels so far have
abbrev pub invariant-loop-number : goal.invariant-loop-number
invariant-loop-number l = (edge : Edge) → edge.from < l.number → Leads (allows l.self) l.step l.from l.goals edge → ⊥
