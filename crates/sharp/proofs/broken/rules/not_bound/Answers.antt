use Rattle.{policy.specs.Policy.allows, sharp.proofs.BrokenSets.bound_told}
use Rattle.sharp.proofs.broken.rules.not_bound.Goals as goal

pub returns : goal.returns
returns c = bound_told (allows c.args.policy.now) c.args.subject _ _ _ _ _ c.only.ensures c.sources-controlling.ensures c.targets.ensures c.row.ensures c.difference.ensures
