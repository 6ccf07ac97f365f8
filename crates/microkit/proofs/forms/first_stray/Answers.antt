use Rattle.std.proofs.Common.{◌∙◌}
use Rattle.{xml.specs.View.pair_of, microkit.{specs.{FormView.rule_of, Forms.follows}, proofs.Items.none_seen}}
use Rattle.microkit.proofs.forms.first_stray.Goals as goal

pub returns : goal.returns
returns c = c.stray_place.ensures ∙ none_seen pair_of rule_of follows c.args.rules.now c.args.attributes.now
