use Rattle.std.proofs.Common.{◌∙◌, sym}
use Rattle.policy.proofs.policy.Policy.may_shrink.Goals as goal

pub returns : goal.returns
returns c =
    let shrink = c.shrink_labels.ensures c.args.object in
    (λ is. shrink.0 (sym c.has.ensures ∙ is), λ holds. c.has.ensures ∙ shrink.1 holds)
