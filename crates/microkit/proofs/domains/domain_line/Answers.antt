use Rattle.std.{specs.Str.bytes_eq, proofs.Common.{◌∙◌, sym}}
use Rattle.microkit.{specs.{Description.Domain, View.domain_of}, proofs.Items.find_seen}
use Rattle.microkit.proofs.domains.domain_line.Goals as goal

pub returns : goal.returns
returns c = c.line_of_domain.ensures
    ∙ sym (find_seen domain_of (λ (one : Domain). one.line) (λ (one : Domain). bytes_eq one.name c.args.name.now) c.args.domains.now)
