-- The rows of the labels so far are there.
use Rattle.{reach.specs.Extents.limits_of, flows.{specs.Ways.FlowsDirectly, proofs.RowByRow.AreRowsBelow}}
use Rattle.flows.proofs.graph.arrow_rows.Given as goal

abbrev pub invariant-loop-number : goal.invariant-loop-number
invariant-loop-number l = AreRowsBelow (FlowsDirectly (limits_of l.reach)) l.rows.items l.number
