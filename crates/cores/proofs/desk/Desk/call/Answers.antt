use Rattle.std.proofs.Common.{arith}
use Rattle.cores.proofs.desk.Desk.call.Goals as goal

pub returns-clause-called : goal.returns-clause-called
returns-clause-called g c not_full = (c.add.ensures.calls, omega (arith, c.add.ensures.within, c.requires.size.0))
