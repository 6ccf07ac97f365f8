-- This number of ways was found that have no label in common.
use Rattle.flows.proofs.Staging.{ArePacked}
use Rattle.flows.proofs.searching.useful.Given as goal

abbrev pub invariant-loop-count : goal.invariant-loop-count
invariant-loop-count l = ArePacked l.rows l.question.from l.question.to l.stage l.set l.count
