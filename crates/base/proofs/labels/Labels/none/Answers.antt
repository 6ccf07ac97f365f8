use Rattle.base.proofs.LabelParts.{in_nothing}
use Rattle.base.proofs.labels.Labels.none.Goals as goal

pub returns : goal.returns
returns c = in_nothing c.none.result c.none.ensures
