use Rattle.machine.proofs.CapCounts.{caps_to-none, last_cap, none-caps_to, only_cap, vanishing_counted}
use Rattle.steps.proofs.removal_laws.counts_tell_the_last_capability.Goals as goal

pub returns-clause-none : goal.returns-clause-none
returns-clause-none c = λ m id. (caps_to-none m id, none-caps_to m id)

pub returns-clause-last : goal.returns-clause-last
returns-clause-last c = λ m slot held filled. (last_cap m slot held filled, only_cap m slot held filled)

pub returns-clause-vanishing : goal.returns-clause-vanishing
returns-clause-vanishing c = vanishing_counted
