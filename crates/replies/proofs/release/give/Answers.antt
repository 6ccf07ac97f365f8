use Rattle.{std.proofs.Common.{subst, sym}, machine.specs.{Machine.Machine, WellFormed.IsWellFormed}}
use Rattle.steps.proofs.MessageFormed.{given_formed}
use Rattle.replies.proofs.release.give.Goals as goal

pub returns-clause-well_formed : goal.returns-clause-well_formed
returns-clause-well_formed c formed =
    subst (λ (m : Machine). IsWellFormed m) (sym c.leave.ensures) (given_formed c.args.state.now c.args.thread c.args.message formed)
