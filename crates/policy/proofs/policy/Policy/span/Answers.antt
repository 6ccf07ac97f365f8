use Rattle.{std.proofs.Common.subst, policy.{specs.Policy.JoinsBelow, proofs.RowEdges.edges_join_below}}
use Rattle.policy.proofs.policy.Policy.span.Goals as goal

pub returns-clause-joins : goal.returns-clause-joins
returns-clause-joins c =
    subst (JoinsBelow c.self.inside.span) c.self.view_is (edges_join_below c.self.inside.span c.self.inside.rows.items c.self.invariant.labels)
