-- The answer to a denied system.
use Rattle.std.proofs.Common.{◌≤◌, List, arith}
use Rattle.{base.specs.declared.edge.Edge.Edge, machine.specs.Layout.Layout, policy.specs.Policy.allows}
use Rattle.verdict.specs.{declared.{denial.Denial.Denial, rules.Rules.Rules}, ByRules.IsLeastBrokenBy}
use Rattle.{commands.specs.{declared.answer.Answer.Answer, Commands.Denies}, report.specs.Answers.{AnswersVerdict, denied}}

pub denied_by :
    (set : Rules) (t : Layout) (edges : List Edge) {Tells : Answer → Type 0} {answer : Answer} (denial : Denial)
    → IsLeastBrokenBy set t (allows edges) denial → Denies t denial answer → AnswersVerdict set t edges Tells answer × (answer.status ≤ 2)
denied_by set t edges denial least denies = (denied denial least denies, omega (arith, denies.status))
