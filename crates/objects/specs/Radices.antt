-- The number of bits of an address that a CNode takes to select a slot (seL4 manual, "Capability Address Lookup"; the limits are
-- confine's own).
use Rattle.std.specs.Prelude.{◌<◌, ◌≤◌}
use Rattle.{base.specs.declared.limits.TheConstants.MAX_RADIX, machine.specs.declared.object.Object.{Object, Object as o}}

-- a CNode takes 1 to 12 bits
abbrev pub HasRadix : Object → Type 0
HasRadix (o.CNode node) = (0 < node.radix) × (node.radix ≤ MAX_RADIX)
HasRadix _ = Unit {0}
