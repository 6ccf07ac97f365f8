-- The elements that are left make of the draft what all of them make.
use Rattle.std.proofs.Common.{◌≡◌, drop}
use Rattle.{xml.specs.View.nodes_of, microkit.specs.Reading.elements_at}
use Rattle.microkit.proofs.draft.Draft.take_all.Given as goal

abbrev pub invariant-loop-number : goal.invariant-loop-number
invariant-loop-number l =
    elements_at l.phase l.number (nodes_of (drop l.number l.elements)) l.self
    ≡ elements_at l.phase 0 (nodes_of l.elements) l.fn.self
