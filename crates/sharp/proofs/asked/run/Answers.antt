use Rattle.{policy.specs.Policy.allows, sharp.proofs.AskedSets.run_told}
use Rattle.sharp.proofs.asked.run.Goals as goal

pub returns : goal.returns
returns c =
    run_told (allows c.args.policy.now) c.args.label _ _ _ _ _ c.only.ensures c.sources-controlling.ensures c.targets-bound.ensures c.lent.ensures
    c.union.ensures
