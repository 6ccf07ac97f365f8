-- The strongest claims hold of a table, and so they are kept.
use Rattle.{std.proofs.Common.{refl, subst}, reach.specs.Extents.limits_of}
use Rattle.claims.{specs.Strongest.AreStrongest, proofs.{Gathered.all_hold, Promised.claim_kept, StrongestLaws.strongest_hold}}
use Rattle.claims.proofs.gathering.strongest.Goals as goal
use Rattle.claims.specs.declared.lines.TheConstants.ClaimLines as ClaimLines

pub returns-clause-strongest : goal.returns-clause-strongest
returns-clause-strongest c =
    subst (λ t. AreStrongest t (limits_of c.args.reach.now) c.in_ok-lines.lines) c.table.ensures c.in_ok-lines.ensures

pub returns-clause-hold : goal.returns-clause-hold
returns-clause-hold c =
    strongest_hold c.args.reach.now.table (limits_of c.args.reach.now) ClaimLines.FIRST c.in_ok-lines.lines (returns-clause-strongest c)

pub returns-clause-kept : goal.returns-clause-kept
returns-clause-kept c = λ claim has.
    let reach = c.args.reach.now in
    claim_kept reach c.bounds_runs.ensures.reach c.bounds_runs.ensures.safe claim
    (all_hold reach.table (limits_of reach) (returns-clause-hold c) refl claim has)
