use Rattle.steps.proofs.RetypeFormed.{made_retype_formed}
use Rattle.steps.proofs.step_laws.retypes_keep_machines_well_formed.Goals as goal

pub returns : goal.returns
returns c = made_retype_formed
