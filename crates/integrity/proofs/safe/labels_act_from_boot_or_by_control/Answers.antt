use Rattle.integrity.proofs.Actors.{acts_by_control, control_acts}
use Rattle.integrity.proofs.safe.labels_act_from_boot_or_by_control.Goals as goal

pub returns : goal.returns
returns c = λ t allowed a rise. (acts_by_control t allowed rise, control_acts t allowed a)
