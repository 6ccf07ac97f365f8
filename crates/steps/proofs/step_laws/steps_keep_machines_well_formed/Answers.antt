use Rattle.steps.proofs.Calls.{run_formed, step_formed}
use Rattle.steps.proofs.step_laws.steps_keep_machines_well_formed.Goals as goal

pub returns-clause-step : goal.returns-clause-step
returns-clause-step c = step_formed

pub returns-clause-run : goal.returns-clause-run
returns-clause-run c = run_formed
