-- The attributes that are left have the value that all of them have.
use Rattle.std.proofs.Common.{◌≡◌, drop}
use Rattle.{xml.specs.View.pairs_of, microkit.specs.Attributes.value_among}
use Rattle.microkit.proofs.attributes.value_in.Given as goal

abbrev pub invariant-loop-attribute : goal.invariant-loop-attribute
invariant-loop-attribute l =
    value_among (pairs_of (drop l.attribute-index l.element.attributes.items)) l.name
    ≡ value_among (pairs_of l.element.attributes.items) l.name
