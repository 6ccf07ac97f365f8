use Rattle.report.proofs.Retold.{said}
use Rattle.report.proofs.asking.policy_answer.Goals as goal

pub returns-in_ok-closed-in-Close : goal.returns-in_ok-closed-in-Close
returns-in_ok-closed-in-Close c = rw c.in-Close.is (c.in_ok-closed-in-Close.ensures.right, c.in_ok-closed-in-Close.ensures.exit)

pub returns-in-Why : goal.returns-in-Why
returns-in-Why c = rw c.in-Why.is c.explained_by.ensures

pub returns-in_ok-policy_picture-in-Draw : goal.returns-in_ok-policy_picture-in-Draw
returns-in_ok-policy_picture-in-Draw c = rw c.in-Draw.is (said c.in_ok-policy_picture-in-Draw.ensures c.plain.ensures.plain)
