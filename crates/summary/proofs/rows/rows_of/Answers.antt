-- That the loop makes the row of each label with a thread.
use Rattle.{std.proofs.Common.arith, reach.specs.Extents.limits_by}
use Rattle.summary.{specs.{declared.rows.Row.Row, Rows.IsRowOf}, proofs.OneMore.{each_more, labels_more, numbers_more}}
use Rattle.summary.proofs.rows.rows_of.Goals as goal

pub loop-index-preserved : goal.loop-index-preserved
loop-index-preserved c =
    let rows = c.loop-index.rows.items in
    let longer = c.push.new.self.items in
    let row = c.row_of.result in
    let i = c.loop-index.index in
    let so_far = c.loop-index.invariant in
    let grown = c.in_ok-push.ensures.items in (
      labels_more (λ (r : Row). r.label) rows longer row c.deref-label-items.result.now i c.label-item.result (omega arith) so_far.0 grown c.row_of.ensures.label c.label-item.is,
      numbers_more (λ (r : Row). r.number) rows longer row i so_far.1 grown c.row_of.ensures.number,
      each_more (IsRowOf c.args.table.now (limits_by c.args.policy.now c.args.actors)) rows longer row so_far.2 grown c.row_of.ensures.row,
    )
