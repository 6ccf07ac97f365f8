use Rattle.std.proofs.Common.{◌∙◌, sym}
use Rattle.policy.{specs.Policy.allows, proofs.Stepping.domain_joined}
use Rattle.policy.proofs.broken.steps.is_in_domain.Goals as goal

pub returns : goal.returns
returns c =
    let joined = domain_joined (allows c.args.policy.now) c.args.subject c.args.label in
    let is = c.has.ensures ∙ c.row_of_kinds.ensures c.args.label in
    (λ e. joined.0 (sym is ∙ e), λ h. is ∙ joined.1 h)
