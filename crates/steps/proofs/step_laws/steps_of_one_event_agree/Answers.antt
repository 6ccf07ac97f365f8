use Rattle.steps.proofs.Steps.{refused_changes_nothing, steps_agree}
use Rattle.steps.proofs.step_laws.steps_of_one_event_agree.Goals as goal

pub returns-clause-agree : goal.returns-clause-agree
returns-clause-agree c = steps_agree

pub returns-clause-refused : goal.returns-clause-refused
returns-clause-refused c = refused_changes_nothing
