use Rattle.policy.{specs.Policy.allows, proofs.RuleSets.domain_told}
use Rattle.policy.proofs.broken.rules.not_derived_in_domain.Goals as goal

pub returns : goal.returns
returns c =
    domain_told (allows c.args.policy.now) c.args.parent c.subjects.result c.domain.result c.row.result c.difference.result c.subjects.ensures c.domain.ensures
    c.row.ensures c.difference.ensures
