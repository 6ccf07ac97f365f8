use Rattle.std.{specs.Str.bytes_eq, proofs.Common.{◌∙◌, sym}}
use Rattle.microkit.{specs.{Description.Region, View.region_of}, proofs.Items.find_seen}
use Rattle.microkit.proofs.regions.region_line.Goals as goal

pub returns : goal.returns
returns c = c.line_of_name.ensures
    ∙ sym (find_seen region_of (λ (one : Region). one.line) (λ (one : Region). bytes_eq one.name c.args.name.now) c.args.regions.now)
