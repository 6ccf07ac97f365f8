use Rattle.std.{specs.Prelude.IfOk, proofs.Common.{◌∙◌, subst}}
use Rattle.report.specs.Replays.{Replays}
use Rattle.report.proofs.replaying.replayed.Goals as goal

pub returns-clause-right : goal.returns-clause-right
returns-clause-right c =
    subst (λ entries. IfOk c.replayed_from-answer.result (Replays c.args.table.now c.args.policy.now entries))
    (c.as_slice.ensures.value ∙ c.log.view_is) c.replayed_from-answer.ensures.right
