use Rattle.policy.{specs.Policy.allows, proofs.Rules.grant_found}
use Rattle.policy.proofs.broken.rules.grant_lacks.Goals as goal

pub returns-in_err-kind : goal.returns-in_err-kind
returns-in_err-kind c =
    rw c.from_residual.ensures
    (grant_found (allows c.args.policy.now) c.args.giver c.args.taker (c.may_be_granted.ensures.0 c.if-not-may_be_granted.false) _ (λ kind labels told. told.1) c.first_cell.result _ c.first_cell.ensures c.in_err-kind.was)

pub returns : goal.returns
returns c =
    grant_found (allows c.args.policy.now) c.args.giver c.args.taker (c.may_be_granted.ensures.0 c.if-not-may_be_granted.false) _ (λ kind labels told. told.1) c.first_cell.result _ c.first_cell.ensures c.in_ok-kind.was
