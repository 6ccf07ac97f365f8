use Rattle.{base.specs.Labels.is_in, policy.proofs.Gathering.either}
use Rattle.summary.proofs.ways.contexts.Goals as goal

pub returns : goal.returns
returns c l =
    either (is_in c.union.result l) (is_in c.row_with-configured.result l) (is_in c.row_with-bound.result l) (c.row_with-configured.ensures l)
    (c.row_with-bound.ensures l) (c.union.ensures l)
