use Rattle.diff.proofs.Namesakes.{are_twins}
use Rattle.diff.proofs.within.labels_are_twins_by_name.Goals as goal

pub returns : goal.returns
returns c = are_twins
