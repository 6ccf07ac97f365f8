-- No set has fewer labels.
use Rattle.{std.proofs.Common.◌≤◌, base.specs.declared.labels.Labels.Labels, flows.specs.{Sets.size_of, Ways.Separates}}
use Rattle.flows.proofs.smallest.fewest.Given as goal

abbrev pub invariant-loop-size : goal.invariant-loop-size
invariant-loop-size l = (set : Labels) → Separates l.rows l.question.from l.question.to l.others set → l.size ≤ size_of set
