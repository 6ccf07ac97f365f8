use Rattle.std.{specs.Prelude.is_some, proofs.Common.{◌∙◌, sym}}
use Rattle.microkit.{specs.{Description.Domain, View.domain_of}, proofs.Items.any_seen}
use Rattle.microkit.proofs.channels.any_serves.Goals as goal

pub returns : goal.returns
returns c = c.one_serves.ensures ∙ sym (any_seen domain_of (λ (domain : Domain). is_some domain.serves) c.args.domains.now)
