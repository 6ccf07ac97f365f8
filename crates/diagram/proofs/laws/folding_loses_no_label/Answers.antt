use Rattle.diagram.proofs.NothingLost.{nothing_lost}
use Rattle.diagram.proofs.laws.folding_loses_no_label.Goals as goal

pub returns : goal.returns
returns c = nothing_lost
