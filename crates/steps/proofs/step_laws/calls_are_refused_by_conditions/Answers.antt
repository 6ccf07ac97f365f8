use Rattle.steps.proofs.Steps.{runs_end, steps_are_begun, steps_end}
use Rattle.steps.proofs.step_laws.calls_are_refused_by_conditions.Goals as goal

pub returns-clause-step : goal.returns-clause-step
returns-clause-step c = steps_end

pub returns-clause-run : goal.returns-clause-run
returns-clause-run c = runs_end

pub returns-clause-begun : goal.returns-clause-begun
returns-clause-begun c = steps_are_begun
