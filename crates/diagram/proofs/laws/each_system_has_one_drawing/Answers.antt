use Rattle.diagram.proofs.OneFolded.{drawn_once}
use Rattle.diagram.proofs.laws.each_system_has_one_drawing.Goals as goal

pub returns : goal.returns
returns c = drawn_once
