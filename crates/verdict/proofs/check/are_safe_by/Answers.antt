-- A system accepted by either set of rules is accepted by the sharp ones.
use Rattle.{policy.specs.Policy.allows, verdict.proofs.RuleSets.accepted_by}
use Rattle.verdict.proofs.check.are_safe_by.Goals as goal

pub returns : goal.returns
returns c =
    let t = c.args.table.now in
    let edges = c.args.policy.now in
    c.sharply_accepted_systems_are_safe.ensures t edges c.keeps_rules.ensures (accepted_by c.args.rules t (allows edges) c.requires)
