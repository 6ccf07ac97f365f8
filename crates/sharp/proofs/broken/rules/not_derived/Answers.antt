use Rattle.{policy.specs.Policy.allows, sharp.proofs.BrokenSets.derived_told}
use Rattle.sharp.proofs.broken.rules.not_derived.Goals as goal

pub returns : goal.returns
returns c = derived_told (allows c.args.policy.now) c.args.keeping c.args.parent _ _ _ _ _ _ _ _ _ c.subjects.ensures c.targets-endpoints.ensures c.sources.ensures c.intersection-takers.ensures c.targets-granted.ensures c.row-derived.ensures c.targets.ensures c.union.ensures c.difference.ensures
