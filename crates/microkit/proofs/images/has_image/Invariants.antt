-- The elements that are left decide the result.
use Rattle.std.proofs.Common.{◌≡◌, drop}
use Rattle.{xml.specs.View.nodes_of, microkit.specs.Images.has_image}
use Rattle.microkit.proofs.images.has_image.Given as goal

abbrev pub invariant-loop-element : goal.invariant-loop-element
invariant-loop-element l =
    has_image l.level (nodes_of (drop l.element-index l.following)) ≡ has_image l.level (nodes_of l.following)
