use Rattle.checker.proofs.Differences.{Agree}
use Rattle.checker.proofs.verifying.first_difference.Given as goal

-- the lines so far are the same
abbrev pub invariant-loop-index : goal.invariant-loop-index
invariant-loop-index l = Agree l.lines l.others l.index
