use Rattle.std.proofs.Common.{◌∙◌, sym}
use Rattle.{xml.specs.Tag.is_given, microkit.proofs.Items.any_pair}
use Rattle.microkit.proofs.forms.is_given.Goals as goal

pub returns : goal.returns
unfolding is_given
returns c = c.has_name.ensures ∙ sym (any_pair c.args.name.now c.args.attributes.now)
