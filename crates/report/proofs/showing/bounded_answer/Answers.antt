use Rattle.report.proofs.Retold.{plain_retold}
use Rattle.report.proofs.showing.bounded_answer.Goals as goal

pub returns-in_ok-impossible_report-in-Nothing-clause-told : goal.returns-in_ok-impossible_report-in-Nothing-clause-told
returns-in_ok-impossible_report-in-Nothing-clause-told c =
    rw c.in-Nothing.is (plain_retold c.in_ok-impossible_report-in-Nothing.ensures c.plain.ensures.plain)
