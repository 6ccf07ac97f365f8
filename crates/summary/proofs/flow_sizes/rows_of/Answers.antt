-- Each turn adds one row more.
use Rattle.std.proofs.Common.{◌+◌, arith, refl}
use Rattle.{reach.specs.Extents.limits_of, summary.proofs.OneMore.{each_more, labels_more, numbers_more}}
use Rattle.summary.specs.{declared.flow_sizes.FlowRow.FlowRow, FlowMatrix.IsFlowRow}
use Rattle.summary.proofs.flow_sizes.rows_of.Goals as goal

pub loop-index-preserved : goal.loop-index-preserved
loop-index-preserved c =
    let rows = c.loop-index.rows.items in
    let longer = c.push.new.self.items in
    let row : FlowRow = record { number = c.loop-index.index + 1; label = c.index-labels-index.result; sizes = c.in_ok-sizes.sizes } in
    let i = c.loop-index.index in
    let so_far = c.loop-index.invariant in
    let grown = c.in_ok-push.ensures.items in (
      labels_more (λ (r : FlowRow). r.label) rows longer row c.args.labels.now i row.label (omega arith) so_far.0 grown refl c.index-labels-index.is,
      numbers_more (λ (r : FlowRow). r.number) rows longer row i so_far.1 grown refl,
      each_more (IsFlowRow (limits_of c.args.graph.now) c.args.labels.now) rows longer row so_far.2 grown c.in_ok-sizes.ensures,
    )
