use Rattle.{base.specs.Labels.is_in, policy.proofs.Gathering.either}
use Rattle.flows.proofs.rows.affected.Goals as goal

pub returns : goal.returns
returns c l =
    either (is_in c.union.result l) (is_in c.changed_by.result l) (is_in c.shrunk_by.result l) (c.changed_by.ensures.changed l)
    (c.shrunk_by.ensures.shrunk l) (c.union.ensures l)
