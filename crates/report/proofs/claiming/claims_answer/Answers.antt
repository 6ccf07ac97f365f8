use Rattle.{std.proofs.Common.{IfOk, subst}, machine.specs.Layout.Layout}
use Rattle.report.specs.Claimed as claimed
use Rattle.report.proofs.claiming.claims_answer.Goals as goal

pub returns-clause-right : goal.returns-clause-right
returns-clause-right c =
    subst (λ (t : Layout). IfOk c.reach_answer.result (claimed.Judges t c.args.lines.now)) c.in_ok-reach.ensures.table c.reach_answer.ensures.right
