use Rattle.{policy.specs.Policy.allows, sharp.proofs.AskedSets.held_told}
use Rattle.sharp.proofs.asked.held.Goals as goal

pub returns : goal.returns
returns c =
    held_told (allows c.args.policy.now) c.args.reply _ _ _ _ _ _ _ c.only.ensures c.sources-naming.ensures c.targets-endpoints.ensures
    c.sources.ensures c.intersection-servers.ensures c.sources-2.ensures c.union.ensures
