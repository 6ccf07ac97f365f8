use Rattle.std.proofs.{Common.{◌^◌, ◌≤◌, arith}, Math.Pow.pow_mono}
use Rattle.base.specs.declared.limits.TheConstants.{MAX_RADIX}
use Rattle.machine.proofs.radix.Radix.slots.Goals as goal

pub returns-clause-most : goal.returns-clause-most
returns-clause-most c =
    let most : 2 ^ c.self.inside.bits ≤ 2 ^ MAX_RADIX = pow_mono {i = c.self.inside.bits} {j = MAX_RADIX} c.self.invariant.1 in
    omega (arith, most)
