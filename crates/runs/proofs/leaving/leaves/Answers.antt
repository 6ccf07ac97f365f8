use Rattle.{std.proofs.Common.arith, policy.specs.Policy.allows, runs.proofs.Outside.leaves_somewhere}
use Rattle.runs.proofs.leaving.leaves.Goals as goal

pub returns-in-Some-clause-left : goal.returns-in-Some-clause-left
returns-in-Some-clause-left c = λ out.
    leaves_somewhere c.args.table.now (allows c.args.policy.now) c.args.script.now c.in-Some.state
    (omega (arith, c.if-script-gt-MOST_CALLS.false)) (rw c.in-Some.is at c.in_ok-state.ensures.reached) (c.lies_outside.ensures out)
