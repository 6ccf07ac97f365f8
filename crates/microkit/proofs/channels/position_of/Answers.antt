use Rattle.std.{specs.Str.bytes_eq, proofs.Common.{◌∙◌, sym}}
use Rattle.microkit.{specs.{Description.Domain, View.domain_of}, proofs.Items.position_seen}
use Rattle.microkit.proofs.channels.position_of.Goals as goal

pub returns : goal.returns
returns c = c.place_of.ensures
    ∙ sym (position_seen domain_of (λ (domain : Domain). bytes_eq domain.name c.args.name.now) c.args.domains.now)
