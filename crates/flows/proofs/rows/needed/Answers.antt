use Rattle.{base.specs.Labels.is_in, policy.proofs.Gathering.{either, only_tells}}
use Rattle.flows.proofs.rows.needed.Goals as goal

pub returns : goal.returns
returns c l =
    either (is_in c.union.result l) (is_in c.only.result l) (is_in c.sees.result l) (only_tells c.only.result c.args.label c.only.ensures l)
    (c.sees.ensures l) (c.union.ensures l)
