use Rattle.machine.proofs.RemovalLooks.{gone_has_no_parent, nearest_survives}
use Rattle.steps.proofs.removal_laws.orphans_come_to_their_nearest_ancestor.Goals as goal

pub returns-clause-stays : goal.returns-clause-stays
returns-clause-stays c = nearest_survives

pub returns-clause-goes : goal.returns-clause-goes
returns-clause-goes c = gone_has_no_parent
