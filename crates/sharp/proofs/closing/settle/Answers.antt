use Rattle.{std.proofs.Common.subst, base.specs.Labels.is_in, policy.{specs.Settling.Grows, proofs.ClosingGrowth.absent_falls}}
use Rattle.sharp.proofs.SharpGrowth.{closed_for_keepers, forced_by_keepers}
use Rattle.sharp.proofs.closing.settle.Goals as goal

pub loop-policy-init : goal.loop-policy-init
loop-policy-init c = record {
  has = λ from kind to e. e;
  least = λ other closed within. within;
  keep = c.keepers-keeping.ensures;
}

pub loop-policy-smaller : goal.loop-policy-smaller
loop-policy-smaller c =
    let middle = c.loop-policy.policy in
    let new = c.settle_labels.new.policy in
    absent_falls middle new c.edges_rise.ensures.labels (subst (Grows middle new) c.if-branch.true c.in_ok-settle_labels.ensures.grows.grows)

pub loop-policy-preserved : goal.loop-policy-preserved
loop-policy-preserved c =
    let middle = c.loop-policy.policy in
    let new = c.settle_labels.new.policy in
    let grows = c.in_ok-settle_labels.ensures.grows in
    let kept = c.loop-policy.invariant in
    record {
      has = λ from kind to e. grows.grows.kept from kind to (kept.has from kind to e);
      least = λ other closed within.
          forced_by_keepers c.loop-policy.keeping (is_in c.args.held) middle new _ kept.keep grows other closed (kept.least other closed within);
      keep = c.keepers-keeping-in-loop-policy.ensures;
    }

pub returns : goal.returns
returns c =
    let middle = c.loop-policy.policy in
    let new = c.settle_labels.new.policy in
    let grows = c.in_ok-settle_labels.ensures.grows in
    let kept = c.loop-policy.invariant in
    record {
      closed = closed_for_keepers c.loop-policy.keeping (is_in c.args.held) middle new kept.keep (grows.grows.same c.if-branch.false)
          (c.in_ok-settle_labels.ensures.settled c.if-branch.false);
      has = λ from kind to e. grows.grows.kept from kind to (kept.has from kind to e);
      least = λ other closed within.
          forced_by_keepers c.loop-policy.keeping (is_in c.args.held) middle new _ kept.keep grows other closed (kept.least other closed within);
    }
