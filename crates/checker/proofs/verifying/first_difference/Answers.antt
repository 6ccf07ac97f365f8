-- Two lists that agree up to the end of the shorter one are the same, or the longer one has a line more.
use Rattle.std.proofs.Common.{◌≡◌, arith, length, min}
use Rattle.checker.proofs.Differences.{differ_at_end, same_lists}
use Rattle.checker.proofs.verifying.first_difference.Goals as goal

pub returns-then-lines-others-clause-none : goal.returns-then-lines-others-clause-none
returns-then-lines-others-clause-none c =
    let one = c.args.lines.now in
    let other = c.args.others.now in
    let common : c.min-common.result ≡ min (length one) (length other) = c.min-common.ensures in
    let same : length one ≡ length other = c.if-lines-others.true in
    same_lists one other same (λ k below. c.loop-index.invariant k (omega arith))

pub returns-else-lines-others-clause-some : goal.returns-else-lines-others-clause-some
returns-else-lines-others-clause-some c =
    let one = c.args.lines.now in
    let other = c.args.others.now in
    let common : c.min-common.result ≡ min (length one) (length other) = c.min-common.ensures in
    differ_at_end one other c.min-common.result common (λ k below. c.loop-index.invariant k (omega arith)) c.if-lines-others.false
