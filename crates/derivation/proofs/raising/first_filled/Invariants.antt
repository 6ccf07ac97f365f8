-- The way from the first slot ends where that from the present slot does.
use Rattle.{std.specs.Prelude.{Option, Some}, base.specs.declared.ids.SlotRef.SlotRef}
use Rattle.{machine.specs.{Machine.parent_of, Orphans.Nearest}, objects.proofs.Ways.steps_up, derivation.specs.Raising.is_empty}
use Rattle.derivation.proofs.raising.first_filled.Given as goal

abbrev pub invariant-loop-at : goal.invariant-loop-at
invariant-loop-at l =
    (end : Option SlotRef) → Nearest (parent_of l.state) (is_empty l.state) (Some l.at) end
    → Nearest (parent_of l.state) (is_empty l.state) (Some l.fn.slot) end

abbrev pub decreases-loop-at : goal.decreases-loop-at
decreases-loop-at l = steps_up l.state l.at
