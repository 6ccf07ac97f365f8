use Rattle.{std.proofs.Common.{subst, sym}, machine.specs.{Machine.Machine, WellFormed.IsWellFormed}}
use Rattle.steps.proofs.MessageFormed.{holder_halted_formed}
use Rattle.replies.proofs.holding.unlink.Goals as goal

pub returns-clause-well_formed : goal.returns-clause-well_formed
returns-clause-well_formed c formed =
    subst (λ (m : Machine). IsWellFormed m) (sym c.halt_holder.ensures) (holder_halted_formed c.args.state.now c.args.id formed)
