use Rattle.{std.proofs.Common.subst, machine.specs.Layout.Layout}
use Rattle.report.specs.Claimed as claimed
use Rattle.report.proofs.claiming.claims_judged.Goals as goal

pub returns-in_ok-claims_answer-in-Ok : goal.returns-in_ok-claims_answer-in-Ok
returns-in_ok-claims_answer-in-Ok c =
    let answer = c.in_ok-claims_answer-in-Ok in
    rw c.in-Ok.is (subst (λ (t : Layout). claimed.Judges t c.in-Ok.with.second answer.field-0) c.table.ensures answer.ensures.right, answer.ensures.exit)
