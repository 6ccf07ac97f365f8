use Rattle.steps.proofs.SpaceFormed.{held_before, root_empty, rootless_formed, still_rooted}
use Rattle.steps.proofs.thread_laws.cleared_root_slots_can_be_filled.Goals as goal

pub returns-clause-well_formed : goal.returns-clause-well_formed
returns-clause-well_formed c = rootless_formed

pub returns-clause-empty : goal.returns-clause-empty
returns-clause-empty c = root_empty

pub returns-clause-kept : goal.returns-clause-kept
returns-clause-kept c = held_before

pub returns-clause-there : goal.returns-clause-there
returns-clause-there c = still_rooted
