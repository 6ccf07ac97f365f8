use Rattle.policy.proofs.Needs.{full_closed, needed, obeys_each}
use Rattle.policy.proofs.laws.closed_policies_obey_each_rule.Goals as goal

pub returns-clause-full : goal.returns-clause-full
returns-clause-full c = full_closed

pub returns-clause-each : goal.returns-clause-each
returns-clause-each c = obeys_each

pub returns-clause-needed : goal.returns-clause-needed
returns-clause-needed c = needed
