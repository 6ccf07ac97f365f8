use Rattle.{std.proofs.Common.subst, reach.specs.Reach.{IsTableReach, TableReach}}
use Rattle.reach.proofs.least.Reach.bounds_runs.Goals as goal

pub returns-clause-reach : goal.returns-clause-reach
returns-clause-reach c = subst (λ (reach : TableReach). IsTableReach reach) c.self.view_is c.self.invariant

pub returns-clause-safe : goal.returns-clause-safe
returns-clause-safe c =
    let reach = c.args.self.now in
    let is = returns-clause-reach c in
    c.runs_stay_in_reach.ensures.safe reach.table reach.policy is.lawful is.least
