use Rattle.{std.proofs.Common.subst, machine.specs.Layout.Layout}
use Rattle.{reach.{specs.Extents.limits_of, proofs.Extents.kept_to}, report.specs.Questions.ReachIsKept}
use Rattle.report.proofs.reaching.kept_reach.Goals as goal

pub returns-clause-reach : goal.returns-clause-reach
returns-clause-reach c = record { of_table = c.in_ok-reach.ensures.table; is = c.in_ok-reach.ensures.reach }

pub returns-clause-kept : goal.returns-clause-kept
returns-clause-kept c =
    let reach = c.in_ok-reach.reach in
    subst (λ (t : Layout). ReachIsKept t (limits_of reach)) c.in_ok-reach.ensures.table (kept_to reach c.in_ok-reach.ensures.reach c.bounds_runs.ensures.safe.narrow)
