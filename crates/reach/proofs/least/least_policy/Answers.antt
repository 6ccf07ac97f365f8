use Rattle.reach.proofs.LeastReach.{least_reach}
use Rattle.reach.proofs.least.least_policy.Goals as goal

pub returns-clause-least : goal.returns-clause-least
returns-clause-least c =
    let is = rw (c.new.ensures, c.deref.ensures.value) at c.in_ok-policy.ensures in
    least_reach c.args.table.now c.args.held c.requires c.in_ok-edges.edges.items c.in_ok-edges.ensures.edges c.in_ok-policy.policy is
