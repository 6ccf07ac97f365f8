use Rattle.report.proofs.closing.closed.Goals as goal

pub returns-in-Surplus-clause-right : goal.returns-in-Surplus-clause-right
returns-in-Surplus-clause-right c = rw c.in-Surplus.is c.surplus_answer.ensures.right
