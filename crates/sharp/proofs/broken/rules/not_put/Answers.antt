use Rattle.{policy.specs.Policy.allows, sharp.proofs.BrokenSets.put_told}
use Rattle.sharp.proofs.broken.rules.not_put.Goals as goal

pub returns : goal.returns
returns c = put_told (allows c.args.policy.now) c.args.keeping c.args.parent _ _ _ _ _ c.subjects.ensures c.intersection-putting.ensures c.targets.ensures c.row.ensures c.difference.ensures
