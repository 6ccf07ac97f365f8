use Rattle.std.proofs.Common.{◌≤◌}
use Rattle.search.proofs.finding.search_from.Given as goal

abbrev pub invariant-loop-turn : goal.invariant-loop-turn
invariant-loop-turn l = l.spent ≤ l.steps
