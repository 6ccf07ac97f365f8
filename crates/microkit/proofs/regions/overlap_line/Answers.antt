use Rattle.std.proofs.Common.{◌∙◌, sym}
use Rattle.microkit.{specs.{Description.Region, Regions.regions_meet, View.region_of}, proofs.Items.find_seen}
use Rattle.microkit.proofs.regions.overlap_line.Goals as goal

pub returns : goal.returns
returns c = c.line_of_overlap.ensures
    ∙ sym (find_seen region_of (λ (one : Region). one.line) (regions_meet (region_of c.args.region.now)) c.args.regions.now)
