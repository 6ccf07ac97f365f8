-- The broken claims of the lines so far.
use Rattle.{std.proofs.Common.take, reach.specs.Extents.limits_of, claims.specs.Holding.AreBroken}
use Rattle.claims.specs.declared.lines.TheConstants.ClaimLines as ClaimLines
use Rattle.claims.proofs.deciding.broken_by.Given as goal

abbrev pub invariant-loop-index : goal.invariant-loop-index
invariant-loop-index l =
    AreBroken l.reach.table (limits_of l.reach) ClaimLines.FIRST (take l.index l.lines) l.broken.items
