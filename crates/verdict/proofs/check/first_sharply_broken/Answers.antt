-- The keepers of the boot state are the labels that may keep.
use Rattle.{base.specs.Labels.is_in, policy.specs.{Policy.allows, Sharp.Told}, integrity.specs.Keeping.MayKeep}
use Rattle.{reach.proofs.LeastReach.{from_may, may_from}, verdict.proofs.MoreKeepers.least_of_same}
use Rattle.verdict.proofs.check.first_sharply_broken.Goals as goal

pub returns : goal.returns
returns c =
    let t = c.args.table.now in
    let allowed = allows c.args.policy.now in
    let held = c.node_holders-held.result in
    let told = c.node_holders-held.ensures.holders in
    let keepers = c.keepers-keeping.ensures in
    least_of_same allowed (Told (is_in c.keepers-keeping.result)) (MayKeep t allowed)
    (λ a keeps. from_may t allowed held told ((keepers a).0 keeps)) (λ a keeps. (keepers a).1 (may_from t allowed held told keeps))
    c.first_broken.result c.first_broken.ensures
