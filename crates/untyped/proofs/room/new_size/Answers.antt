-- Untyped memory has at most 47 bits.
use Rattle.std.proofs.{Common.{◌%◌, ◌*◌, ◌^◌, ◌≤◌, arith}, Math.{Nat.mod-le, Pow.pow_mono}}
use Rattle.{machine.specs.declared.object.MemoryKind.MemoryKind as kind, steps.proofs.RetypeRow.is_sized}
use Rattle.untyped.proofs.room.new_size.Goals as goal

pub returns-in-Untyped-clause-most : goal.returns-in-Untyped-clause-most
returns-in-Untyped-clause-most c =
    let bits = c.args.bits in
    let within = is_sized kind.Untyped bits tt (rw c.in-Untyped.is at c.requires) in
    let kept : 1 * 2 ^ bits % 2 ^ 64 ≤ 1 * 2 ^ bits = mod-le (1 * 2 ^ bits) (2 ^ 64) in
    let most : 2 ^ bits ≤ 2 ^ 47 = pow_mono within.1 in
    omega (arith, kept, most)
