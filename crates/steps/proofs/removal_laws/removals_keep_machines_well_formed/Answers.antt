use Rattle.steps.proofs.RemovalNumbers.{removed_formed}
use Rattle.steps.proofs.removal_laws.removals_keep_machines_well_formed.Goals as goal

pub returns : goal.returns
returns c = removed_formed
