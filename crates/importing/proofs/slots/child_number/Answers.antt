use Rattle.std.proofs.Common.{◌∙◌, sym}
use Rattle.{microkit.specs.View.domain_of, importing.{specs.Slots.is_child, proofs.Items.position_seen}}
use Rattle.importing.proofs.slots.child_number.Goals as goal

pub returns : goal.returns
returns c = c.place_of.ensures ∙ sym (position_seen domain_of (is_child c.args.domain c.args.id) c.args.domains.now)
