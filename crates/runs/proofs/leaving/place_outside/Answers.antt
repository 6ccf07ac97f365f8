use Rattle.{std.proofs.Common.arith, policy.specs.Policy.allows, runs.proofs.Outside.leaves_at}
use Rattle.runs.proofs.leaving.place_outside.Goals as goal

pub returns-in-Some-clause-left : goal.returns-in-Some-clause-left
returns-in-Some-clause-left c =
    leaves_at c.args.table.now (allows c.args.policy.now) c.args.script.now c.in-Some.state c.outside.result
    (omega (arith, c.if-script-gt-MOST_CALLS.false)) (rw c.in-Some.is at c.in_ok-state.ensures.reached) c.outside.ensures.first
