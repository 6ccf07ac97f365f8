use Rattle.std.proofs.Common.{◌∙◌, sym}
use Rattle.xml.{specs.Document.{is_one_of}, proofs.Items.{any_known}}
use Rattle.xml.proofs.document.is_one_of.Goals as goal

pub returns : goal.returns
unfolding is_one_of
returns c = c.is_known.ensures ∙ sym (any_known c.args.value.now c.args.values.now)
