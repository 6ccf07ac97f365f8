use Rattle.{policy.specs.Policy.allows, sharp.proofs.KeeperSearch.beside_told}
use Rattle.sharp.proofs.keeping.beside.Goals as goal

pub returns : goal.returns
returns c =
    beside_told (allows c.args.policy.now) c.args.keeping _ _ _ _ c.sources-finding.ensures c.targets-handed.ensures c.union.ensures c.difference.ensures
