-- The slot descends from the other exactly if the present slot does.
use Rattle.std.specs.Prelude.{◌↔◌}
use Rattle.{machine.specs.WellFormed.Descends, objects.proofs.Ways.steps_up}
use Rattle.derivation.proofs.tree.descends.Given as goal

abbrev pub invariant-loop-parent : goal.invariant-loop-parent
invariant-loop-parent l = Descends l.state l.fn.slot l.above ↔ Descends l.state l.at l.above

abbrev pub decreases-loop-parent : goal.decreases-loop-parent
decreases-loop-parent l = steps_up l.state l.at
