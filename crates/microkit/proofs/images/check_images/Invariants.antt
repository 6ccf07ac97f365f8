-- The elements that are left decide the result.
use Rattle.std.proofs.Common.{◌≡◌, drop}
use Rattle.{xml.specs.View.nodes_of, microkit.specs.Images.images_at}
use Rattle.microkit.proofs.images.check_images.Given as goal

abbrev pub invariant-loop-number : goal.invariant-loop-number
invariant-loop-number l = images_at l.number (nodes_of (drop l.number l.elements)) ≡ images_at 0 (nodes_of l.elements)
