use Rattle.policy.{specs.Policy.allows, proofs.Rules.control_found}
use Rattle.policy.proofs.broken.rules.control_lacks.Goals as goal

pub returns-in_err-kind : goal.returns-in_err-kind
returns-in_err-kind c =
    rw c.from_residual.ensures
    (control_found (allows c.args.policy.now) c.args.subject _ (λ kind labels told. told.1) c.first_cell.result _ c.first_cell.ensures c.in_err-kind.was)

pub returns : goal.returns
returns c =
    control_found (allows c.args.policy.now) c.args.subject _ (λ kind labels told. told.1) c.first_cell.result _ c.first_cell.ensures c.in_ok-kind.was
