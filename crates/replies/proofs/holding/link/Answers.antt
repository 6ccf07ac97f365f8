-- A thread and a reply that were free come to agree.
use Rattle.{std.proofs.Common.{subst, sym}, machine.specs.{Machine.Machine, WellFormed.IsWellFormed}}
use Rattle.replies.proofs.holding.link.Goals as goal

pub returns-clause-well_formed : goal.returns-clause-well_formed
returns-clause-well_formed c tcb formed there idle free =
    subst (λ (m : Machine). IsWellFormed m) (sym c.tie.ensures)
    (c.blocks_keep_machines_well_formed.ensures.called c.args.state.now c.args.thread c.args.calling tcb formed there idle free)
