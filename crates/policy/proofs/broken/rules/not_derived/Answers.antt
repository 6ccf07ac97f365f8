use Rattle.policy.{specs.Policy.allows, proofs.RuleSets.derive_told}
use Rattle.policy.proofs.broken.rules.not_derived.Goals as goal

pub returns : goal.returns
returns c =
    derive_told (allows c.args.policy.now) c.args.parent _ _ _ _ _ _ _ _ c.subjects.ensures c.targets-endpoints.ensures c.sources.ensures c.domain-granted.ensures
    c.row-derived.ensures c.targets.ensures c.union.ensures c.difference.ensures
