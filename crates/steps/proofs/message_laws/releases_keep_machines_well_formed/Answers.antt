use Rattle.steps.proofs.MessageFormed.{aborted_formed, emptied_formed, given_formed, halted_formed, holder_halted_formed}
use Rattle.steps.proofs.MessageFormed.{holder_halted_free, ready_formed}
use Rattle.steps.proofs.message_laws.releases_keep_machines_well_formed.Goals as goal

pub returns-clause-given : goal.returns-clause-given
returns-clause-given c = given_formed

pub returns-clause-ready : goal.returns-clause-ready
returns-clause-ready c = ready_formed

pub returns-clause-halted : goal.returns-clause-halted
returns-clause-halted c = halted_formed

pub returns-clause-aborted : goal.returns-clause-aborted
returns-clause-aborted c = aborted_formed

pub returns-clause-holder : goal.returns-clause-holder
returns-clause-holder c = holder_halted_formed

pub returns-clause-free : goal.returns-clause-free
returns-clause-free c = holder_halted_free

pub returns-clause-emptied : goal.returns-clause-emptied
returns-clause-emptied c = emptied_formed
