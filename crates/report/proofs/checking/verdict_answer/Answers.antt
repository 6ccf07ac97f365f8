use Rattle.report.proofs.Denied.{denied_by}
use Rattle.report.proofs.checking.verdict_answer.Goals as goal

pub returns-in_ok-denied-in-Err-clause-judged : goal.returns-in_ok-denied-in-Err-clause-judged
returns-in_ok-denied-in-Err-clause-judged g c =
    denied_by c.args.rules c.args.table.now c.args.policy.now c.in-Err.denial (rw c.in-Err.is at c.in_ok-judge_by.ensures.verdict) c.in_ok-denied-in-Err.ensures
