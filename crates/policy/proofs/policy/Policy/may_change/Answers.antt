use Rattle.std.proofs.Common.{◌∙◌, sym}
use Rattle.policy.proofs.policy.Policy.may_change.Goals as goal

pub returns : goal.returns
returns c =
    let change = c.change_labels.ensures c.args.object in
    (λ is. change.0 (sym c.has.ensures ∙ is), λ holds. c.has.ensures ∙ change.1 holds)
