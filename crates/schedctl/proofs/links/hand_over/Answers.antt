use Rattle.{std.proofs.Common.{subst, sym}, machine.specs.{Machine.Machine, WellFormed.IsWellFormed}}
use Rattle.steps.proofs.ContextsFormed.{with_handed_formed}
use Rattle.schedctl.proofs.links.hand_over.Goals as goal

pub returns-clause-well_formed : goal.returns-clause-well_formed
returns-clause-well_formed c formed =
    subst (λ (m : Machine). IsWellFormed m) (sym c.rebind.ensures)
    (with_handed_formed c.args.state.now c.args.from c.args.to formed c.requires.free)
