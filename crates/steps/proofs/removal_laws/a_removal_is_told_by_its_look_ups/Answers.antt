use Rattle.machine.proofs.RemovalLooks.{cap_of-removed, going-removed, next-removed, object_of-removed, parent_of-removed, queue_of-removed}
use Rattle.machine.proofs.RemovalLooks.{words_of-removed}
use Rattle.steps.proofs.removal_laws.a_removal_is_told_by_its_look_ups.Goals as goal

pub returns-clause-objects : goal.returns-clause-objects
returns-clause-objects c = object_of-removed

pub returns-clause-queues : goal.returns-clause-queues
returns-clause-queues c = queue_of-removed

pub returns-clause-words : goal.returns-clause-words
returns-clause-words c = words_of-removed

pub returns-clause-caps : goal.returns-clause-caps
returns-clause-caps c = cap_of-removed

pub returns-clause-parents : goal.returns-clause-parents
returns-clause-parents c = parent_of-removed

pub returns-clause-next : goal.returns-clause-next
returns-clause-next c = next-removed

pub returns-clause-going : goal.returns-clause-going
returns-clause-going c = going-removed
