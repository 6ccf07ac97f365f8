use Rattle.{policy.specs.Policy.allows, sharp.proofs.AskedSets.derived_told}
use Rattle.sharp.proofs.asked.derived.Goals as goal

pub returns : goal.returns
returns c =
    derived_told (allows c.args.policy.now) c.args.keeping c.args.parent _ _ _ _ _ _ c.holders-having.ensures c.intersection-putting.ensures
    c.row.ensures c.targets-further.ensures c.targets.ensures c.union.ensures
