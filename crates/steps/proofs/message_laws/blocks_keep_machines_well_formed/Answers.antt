use Rattle.steps.proofs.MessageFormed.{awaiting_formed, blocked_formed, called_formed}
use Rattle.steps.proofs.message_laws.blocks_keep_machines_well_formed.Goals as goal

pub returns-clause-blocked : goal.returns-clause-blocked
returns-clause-blocked c = blocked_formed

pub returns-clause-awaiting : goal.returns-clause-awaiting
returns-clause-awaiting c = awaiting_formed

pub returns-clause-called : goal.returns-clause-called
returns-clause-called c = called_formed
