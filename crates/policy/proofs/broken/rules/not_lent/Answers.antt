use Rattle.policy.{specs.Policy.allows, proofs.RuleSets.loan_told}
use Rattle.policy.proofs.broken.rules.not_lent.Goals as goal

pub returns : goal.returns
returns c =
    loan_told (allows c.args.policy.now) c.args.borrower _ _ _ _ _ c.row-endpoints.ensures c.sources-lenders.ensures c.targets.ensures c.row.ensures c.difference.ensures
