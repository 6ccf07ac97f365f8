use Rattle.{verdict.specs.declared.rules.Rules.Rules as rules, report.proofs.Denied.denied_by}
use Rattle.report.proofs.splitting.ran_split.Goals as goal

pub returns-in_ok-denied-in-Err-2 : goal.returns-in_ok-denied-in-Err-2
returns-in_ok-denied-in-Err-2 g c =
    rw c.in-Ok.is (denied_by rules.Closed c.in-Ok.three.table c.in-Ok.three.policy c.in-Err-2.denial (rw c.in-Err-2.is at c.in_ok-accepted.ensures.verdict) c.in_ok-denied-in-Err-2.ensures)
