use Rattle.policy.{specs.Policy.allows, proofs.CutSets.cut_is}
use Rattle.policy.proofs.policy.Policy.cut_labels.Goals as goal

pub returns : goal.returns
returns c object =
    let cut = cut_is (allows c.args.self.now) c.args.actor c.bases-bases.result c.targets.result c.union-reached.result c.near.result
    c.bases-bases.ensures c.targets.ensures c.union-reached.ensures c.near.ensures object in
    (λ is. cut.0 ((c.near-2.ensures object).0 is), λ may. (c.near-2.ensures object).1 (cut.1 may))
