use Rattle.steps.proofs.Arrival.{arrival_formed}
use Rattle.steps.proofs.message_laws.arrivals_keep_machines_well_formed.Goals as goal

pub returns : goal.returns
returns c = arrival_formed
