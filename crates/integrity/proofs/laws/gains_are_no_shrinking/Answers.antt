-- Each gain, of a machine that differs in it alone, is no shrinking.
use Rattle.integrity.proofs.Gains.{budget_grows, capability_grows, context_grows, holding_grows, inbox_grows, made_grows, mark_grows}
use Rattle.integrity.proofs.Gains.{memory_grows, queue_grows, runner_grows, state_grows, wait_grows, word_grows}
use Rattle.integrity.proofs.laws.gains_are_no_shrinking.Goals as goal

pub returns-clause-word : goal.returns-clause-word
returns-clause-word c = word_grows

pub returns-clause-budget : goal.returns-clause-budget
returns-clause-budget c = budget_grows

pub returns-clause-member : goal.returns-clause-member
returns-clause-member c = queue_grows

pub returns-clause-capability : goal.returns-clause-capability
returns-clause-capability c = capability_grows

pub returns-clause-arrival : goal.returns-clause-arrival
returns-clause-arrival c = inbox_grows

pub returns-clause-context : goal.returns-clause-context
returns-clause-context c = context_grows

pub returns-clause-memory : goal.returns-clause-memory
returns-clause-memory c = memory_grows

pub returns-clause-made : goal.returns-clause-made
returns-clause-made c = made_grows

pub returns-clause-runner : goal.returns-clause-runner
returns-clause-runner c = runner_grows

pub returns-clause-holding : goal.returns-clause-holding
returns-clause-holding c = holding_grows

pub returns-clause-state : goal.returns-clause-state
returns-clause-state c = state_grows

pub returns-clause-wait : goal.returns-clause-wait
returns-clause-wait c = wait_grows

pub returns-clause-watermark : goal.returns-clause-watermark
returns-clause-watermark c = mark_grows
