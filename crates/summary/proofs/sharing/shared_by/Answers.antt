use Rattle.std.proofs.Common.{◌∙◌, arith, sym}
use Rattle.{base.specs.{declared.kind.Kind.TheVariants.Write, Labels.is_in}, policy.proofs.Gathering.told_as}
use Rattle.summary.proofs.sharing.shared_by.Goals as goal

pub returns : goal.returns
returns c l =
    let are = c.requires in
    let row = c.row-written.ensures in
    told_as (is_in c.join.result l) (c.join.ensures l)
    (λ joint. record {
      region = joint.at;
      writes = sym (row joint.at) ∙ joint.among;
      held = (are.each joint.at (omega (arith, joint.there, are.count)) l).0 joint.has;
    })
    (λ shares.
    let ends = c.edges_rise.ensures.labels c.args.actor Write shares.region shares.writes in record {
      at = shares.region;
      among = row shares.region ∙ shares.writes;
      there = omega (arith, ends.1, are.count);
      has = (are.each shares.region ends.1 l).1 shares.held;
    })
