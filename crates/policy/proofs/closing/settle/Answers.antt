use Rattle.{std.proofs.Common.subst, policy.{specs.Settling.Grows, proofs.ClosingGrowth.absent_falls}}
use Rattle.policy.proofs.closing.settle.Goals as goal

pub loop-policy-smaller : goal.loop-policy-smaller
loop-policy-smaller c =
    let middle = c.loop-policy.policy in
    let new = c.settle_labels.new.policy in
    absent_falls middle new c.edges_rise.ensures.labels (subst (Grows middle new) c.if-branch.true c.in_ok-settle_labels.ensures.grows)

pub loop-policy-preserved : goal.loop-policy-preserved
loop-policy-preserved c =
    let grows = c.in_ok-settle_labels.ensures.grows in
    let kept = c.loop-policy.invariant in
    record {
      has = λ from kind to e. grows.kept from kind to (kept.has from kind to e);
      least = λ other closed within. grows.forced other closed (kept.least other closed within);
    }

pub returns : goal.returns
returns c =
    let grows = c.in_ok-settle_labels.ensures.grows in
    let kept = c.loop-policy.invariant in
    record {
      closed = c.in_ok-settle_labels.ensures.settled c.if-branch.false;
      has = λ from kind to e. grows.kept from kind to (kept.has from kind to e);
      least = λ other closed within. grows.forced other closed (kept.least other closed within);
    }
