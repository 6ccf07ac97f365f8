use Rattle.std.proofs.Common.{◌∙◌, not, sym}
use Rattle.{xml.specs.View.pairs_of, microkit.{specs.{FormView.rule_of, Forms.{Rule, is_met}}, proofs.Items.position_seen}}
use Rattle.microkit.proofs.forms.first_unmet.Goals as goal

pub returns : goal.returns
returns c = c.unmet_place.ensures
    ∙ sym (position_seen rule_of (λ (rule : Rule). not (is_met (pairs_of c.args.attributes.now) rule)) c.args.rules.now)
