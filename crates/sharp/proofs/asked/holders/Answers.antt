use Rattle.{policy.specs.Policy.allows, sharp.proofs.AskedSets.holders_told}
use Rattle.sharp.proofs.asked.holders.Goals as goal

pub returns : goal.returns
returns c =
    holders_told (allows c.args.policy.now) c.args.label _ _ _ _ c.subjects-finding.ensures c.targets-endpoints.ensures c.sources.ensures
    c.union.ensures
