-- A chain leads from each label that was found, and only such flow to the labels that are done.
use Rattle.{base.specs.Labels.is_in, sharp.proofs.Missing.missing_below, reach.specs.Extents.limits_of, flows.proofs.Leading.AreLeading}
use Rattle.flows.proofs.flowing.Flows.sources_of.Given as goal

abbrev pub invariant-loop-label : goal.invariant-loop-label
invariant-loop-label l = AreLeading (limits_of l.self) (is_in l.filters) l.fn.to (is_in l.done) (is_in l.leading)

abbrev pub decreases-loop-label : goal.decreases-loop-label
decreases-loop-label l = missing_below (is_in l.done) 256
