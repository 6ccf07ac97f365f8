use Rattle.{std.proofs.Common.{None, subst}, machine.specs.Layout.Layout, commands.specs.Commands.IsJudgedSo}
use Rattle.report.specs.Answers as answers
use Rattle.report.proofs.checking.checked.Goals as goal

pub returns-in-Ok-clause-judged : goal.returns-in-Ok-clause-judged
returns-in-Ok-clause-judged g c =
    rw c.in-Ok.is
    (subst (λ (t : Layout). IsJudgedSo None (answers.Checks c.args.rules c.args.on_accept t c.in-Ok.with.second) c.verdict_answer.result) c.table.ensures
    c.verdict_answer.ensures.judged)
