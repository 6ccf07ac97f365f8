use Rattle.{std.proofs.Common.{subst, sym}, machine.specs.{Machine.Machine, WellFormed.IsWellFormed}}
use Rattle.steps.proofs.ContextsFormed.{with_unbound_formed}
use Rattle.schedctl.proofs.links.part.Goals as goal

pub returns-clause-well_formed : goal.returns-clause-well_formed
returns-clause-well_formed c formed =
    subst (λ (m : Machine). IsWellFormed m) (sym c.cut.ensures) (with_unbound_formed c.args.state.now c.args.thread formed)
