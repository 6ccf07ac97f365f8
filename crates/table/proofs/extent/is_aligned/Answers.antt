-- An object below the addresses' end has no more bits than an address.
use Rattle.std.proofs.Common.{◌∙◌, ◌≤◌, arith, sym}
use Rattle.{base.specs.declared.limits.TheConstants.ADDRESS_BITS, table.proofs.ExtentLemmas.small}
use Rattle.table.proofs.extent.is_aligned.Goals as goal

pub overflow_shl-result : goal.overflow_shl-result
overflow_shl-result c =
    let few : c.in-Some.bits ≤ ADDRESS_BITS = small c.args.object.now c.in-Some.bits (sym c.size_bits.ensures ∙ c.in-Some.is) c.requires in
    omega (arith, few)
