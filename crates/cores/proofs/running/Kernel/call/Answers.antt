use Rattle.std.proofs.Common.{◌∙◌}
use Rattle.cores.proofs.running.Kernel.call.Goals as goal

pub returns-clause-full : goal.returns-clause-full
returns-clause-full g c is = let looked = c.call.ensures.full is in (looked.0, looked.1 ∙ c.self.invariant.sized)
