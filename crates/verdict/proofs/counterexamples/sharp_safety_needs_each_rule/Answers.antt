use Rattle.verdict.proofs.SharpUnsafe.{unsafe_without_each, unsafe_without_granted, unsafe_without_rise, unsafe_without_transitive}
use Rattle.verdict.proofs.counterexamples.sharp_safety_needs_each_rule.Goals as goal

pub returns-clause-each : goal.returns-clause-each
returns-clause-each c = unsafe_without_each

pub returns-clause-rise : goal.returns-clause-rise
returns-clause-rise c = unsafe_without_rise

pub returns-clause-granted : goal.returns-clause-granted
returns-clause-granted c = unsafe_without_granted

pub returns-clause-transitive : goal.returns-clause-transitive
returns-clause-transitive c = unsafe_without_transitive
