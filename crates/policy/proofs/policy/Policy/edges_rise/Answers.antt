use Rattle.{std.proofs.Common.subst, policy.{specs.Policy.{IsRising, JoinsLabels}, proofs.RowEdges.{edges_join, edges_rising}}}
use Rattle.policy.proofs.policy.Policy.edges_rise.Goals as goal

pub returns-clause-rising : goal.returns-clause-rising
returns-clause-rising c = subst IsRising c.self.view_is (edges_rising c.self.inside.rows.items)

pub returns-clause-labels : goal.returns-clause-labels
returns-clause-labels c = subst JoinsLabels c.self.view_is (edges_join c.self.inside.rows.items)
