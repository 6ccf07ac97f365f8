-- The sum doesn't overflow with at most as many bits as an address has; an object with more doesn't fit.
use Rattle.std.proofs.Common.{◌∙◌, sym}
use Rattle.table.proofs.ExtentLemmas.{few_fit, many_exceed, shifted}
use Rattle.table.proofs.extent.is_addressable.Goals as goal

pub overflow_sub-result : goal.overflow_sub-result
overflow_sub-result c = rw (shifted c.in-Some.bits c.if-bits-le-ADDRESS_BITS.true).0 (shifted c.in-Some.bits c.if-bits-le-ADDRESS_BITS.true).1

pub returns-then-bits-le-ADDRESS_BITS : goal.returns-then-bits-le-ADDRESS_BITS
returns-then-bits-le-ADDRESS_BITS c =
    rw (c.address.ensures) (few_fit c.args.object.now c.in-Some.bits (sym c.size_bits.ensures ∙ c.in-Some.is) c.if-bits-le-ADDRESS_BITS.true)

pub returns-else-bits-le-ADDRESS_BITS : goal.returns-else-bits-le-ADDRESS_BITS
returns-else-bits-le-ADDRESS_BITS c =
    many_exceed c.args.object.now c.in-Some.bits (sym c.size_bits.ensures ∙ c.in-Some.is) c.if-bits-le-ADDRESS_BITS.false
