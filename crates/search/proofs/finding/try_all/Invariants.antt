use Rattle.std.proofs.Common.{◌≤◌}
use Rattle.machine.specs.WellFormed.{IsWellFormed}
use Rattle.search.proofs.finding.try_all.Given as goal

abbrev pub invariant-loop-call : goal.invariant-loop-call
invariant-loop-call l = IsWellFormed l.ground × (l.tried ≤ l.most)
