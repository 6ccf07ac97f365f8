-- The tree, once all children are handed over, is the one that it would be if all had been at first. Each turn leaves one less.
use Rattle.std.{specs.{FinMap.keys, Prelude.IsTrue}, proofs.Common.◌≡◌}
use Rattle.{machine.specs.Machine.has_slot, objects.specs.Pairs.IsFilledOrGoing}
use Rattle.derivation.{specs.Moving.{StandsNoLower, handed_over}, proofs.Children.children_among}
use Rattle.derivation.proofs.tree.hand_over.Given as goal

abbrev pub invariant-loop-child : goal.invariant-loop-child
invariant-loop-child l = record {
  target : IsTrue (has_slot l.state l.to);
  filled : IsFilledOrGoing l.state l.to;
  same : handed_over l.state l.from l.to ≡ handed_over l.fn.state l.from l.to;
  place : StandsNoLower l.state l.to l.from;
}

abbrev pub decreases-loop-child : goal.decreases-loop-child
decreases-loop-child l = children_among l.state l.from (keys l.fn.state.parents)
