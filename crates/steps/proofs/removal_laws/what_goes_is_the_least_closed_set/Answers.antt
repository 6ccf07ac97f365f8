use Rattle.machine.{specs.Gone.gone_of, proofs.GoneLemmas.{gone_decided, gone_least, losing_decided}}
use Rattle.steps.proofs.removal_laws.what_goes_is_the_least_closed_set.Goals as goal

pub returns-clause-least : goal.returns-clause-least
returns-clause-least c = gone_least

pub returns-clause-reasons : goal.returns-clause-reasons
returns-clause-reasons c = gone_decided

pub returns-clause-vanishing : goal.returns-clause-vanishing
returns-clause-vanishing c = λ m chosen id. losing_decided m (gone_of m chosen) id
