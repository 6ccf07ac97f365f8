use Rattle.std.proofs.Common.{◌∙◌, sym}
use Rattle.policy.proofs.policy.Policy.full.Goals as goal

pub returns : goal.returns
returns c =
    let full = c.full_labels.ensures c.args.object in
    (λ is. full.0 (sym c.has.ensures ∙ is), λ holds. c.has.ensures ∙ full.1 holds)
