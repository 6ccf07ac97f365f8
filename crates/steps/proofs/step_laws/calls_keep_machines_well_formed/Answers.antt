use Rattle.steps.proofs.Calls.{makes_formed}
use Rattle.steps.proofs.step_laws.calls_keep_machines_well_formed.Goals as goal

pub returns : goal.returns
returns c = makes_formed
