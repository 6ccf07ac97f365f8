use Rattle.std.proofs.Common.{arith}
use Rattle.report.specs.Answers as answers
use Rattle.report.proofs.verifying.verified.Goals as goal

pub returns-in_ok-denied-in-Err-Denied : goal.returns-in_ok-denied-in-Err-Denied
returns-in_ok-denied-in-Err-Denied g c =
    let denied = c.in_ok-denied-in-Err-Denied.ensures in
    rw c.in-Ok.is (
      answers.denied c.in-Err-Denied.denial (rw c.in-Err-Denied.field-0-is at c.in-Err-Denied.ensures.verdict) denied,
      omega (arith, denied.status),
    )
