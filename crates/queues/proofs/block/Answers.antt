-- A thread that was ready or inactive waits as the others there do.
use Rattle.{std.proofs.Common.{subst, sym}, machine.specs.{Machine.Machine, WellFormed.IsWellFormed}}
use Rattle.queues.proofs.block.Goals as goal

pub returns-clause-well_formed : goal.returns-clause-well_formed
returns-clause-well_formed c tcb at formed there idle is waits fits none alike =
    subst (λ (m : Machine). IsWellFormed m) (sym c.wait_at.ensures)
    (c.blocks_keep_machines_well_formed.ensures.blocked c.args.state.now c.args.thread c.args.id tcb c.args.run at formed there idle is waits fits none alike)
