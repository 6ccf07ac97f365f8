-- A thread that was ready or inactive, and a reply that was free, come to agree.
use Rattle.{std.proofs.Common.{subst, sym}, machine.specs.{Machine.Machine, WellFormed.IsWellFormed}}
use Rattle.replies.proofs.holding.await_message.Goals as goal

pub returns-clause-well_formed : goal.returns-clause-well_formed
returns-clause-well_formed c tcb formed there idle is alike free =
    subst (λ (m : Machine). IsWellFormed m) (sym c.wait_for_message.ensures)
    (c.blocks_keep_machines_well_formed.ensures.awaiting c.args.state.now c.args.thread tcb c.args.receiving formed there idle is alike free)
