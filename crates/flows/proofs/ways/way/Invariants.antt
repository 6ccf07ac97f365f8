-- Steps are found until one leads to the end, or all are done.
use Rattle.std.proofs.Common.{◌*◌, ◌+◌, ◌-◌, length}
use Rattle.{base.specs.Labels.is_in, sharp.proofs.Missing.missing_below, flows.proofs.Walking.AreSteps}
use Rattle.flows.proofs.ways.way.Given as goal

abbrev pub invariant-loop-at : goal.invariant-loop-at
invariant-loop-at l = AreSteps l.rows (is_in l.fn.set) l.from l.to (is_in l.seen) l.steps.items l.at

abbrev pub decreases-loop-at : goal.decreases-loop-at
decreases-loop-at l = 2 * missing_below (is_in l.seen) 256 + (length l.steps.items - l.at)
