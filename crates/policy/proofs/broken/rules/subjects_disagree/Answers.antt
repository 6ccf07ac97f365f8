use Rattle.policy.{specs.Policy.allows, proofs.Rules.disagreement_found}
use Rattle.policy.proofs.broken.rules.subjects_disagree.Goals as goal

pub returns-in_err-kind : goal.returns-in_err-kind
returns-in_err-kind c =
    rw c.from_residual.ensures
    (disagreement_found (allows c.args.policy.now) c.args.subject c.args.other (c.is_in_domain.ensures.0 c.if-not-is_in_domain.false) _ (λ kind labels told. told.1) c.first_cell.result _ c.first_cell.ensures c.in_err-kind.was)

pub returns : goal.returns
returns c =
    disagreement_found (allows c.args.policy.now) c.args.subject c.args.other (c.is_in_domain.ensures.0 c.if-not-is_in_domain.false) _ (λ kind labels told. told.1) c.first_cell.result _ c.first_cell.ensures c.in_ok-kind.was
