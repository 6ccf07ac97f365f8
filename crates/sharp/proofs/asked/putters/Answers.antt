use Rattle.{policy.specs.Policy.allows, sharp.proofs.AskedSets.putters_told}
use Rattle.sharp.proofs.asked.putters.Goals as goal

pub returns : goal.returns
returns c =
    putters_told (allows c.args.policy.now) c.args.keeping c.args.label _ _ _ c.only.ensures c.sources.ensures c.intersection.ensures
