use Rattle.machine.proofs.RemovalTable.{context_lost, context_unbound, holder_halted, queue_left, queued_aborted, reply_stays}
use Rattle.machine.proofs.RemovalTable.{thread_untouched, unlinked_stays}
use Rattle.steps.proofs.removal_laws.vanished_objects_are_finalised.Goals as goal

pub returns-clause-queued : goal.returns-clause-queued
returns-clause-queued c = queued_aborted

pub returns-clause-held : goal.returns-clause-held
returns-clause-held c = holder_halted

pub returns-clause-context : goal.returns-clause-context
returns-clause-context c = context_lost

pub returns-clause-queues : goal.returns-clause-queues
returns-clause-queues c = queue_left

pub returns-clause-replies : goal.returns-clause-replies
returns-clause-replies c = reply_stays

pub returns-clause-contexts : goal.returns-clause-contexts
returns-clause-contexts c = context_unbound

pub returns-clause-threads : goal.returns-clause-threads
returns-clause-threads c = thread_untouched

pub returns-clause-others : goal.returns-clause-others
returns-clause-others c = unlinked_stays
