use Rattle.std.proofs.Common.{◌≤◌}
use Rattle.search.proofs.escaping.search_from.Given as goal

abbrev pub invariant-loop-number : goal.invariant-loop-number
invariant-loop-number l = l.spent ≤ l.steps
