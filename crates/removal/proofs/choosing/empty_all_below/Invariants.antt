-- Slots that descended are out of the tree and empty, or still descend. Each turn leaves one pair less.
use Rattle.{std.specs.{FinMap.keys, List.count_by, Prelude.is_some}, machine.specs.Machine.parent_of, removal.proofs.Clearing.Clears}
use Rattle.removal.proofs.choosing.empty_all_below.Given as goal

abbrev pub invariant-loop-child : goal.invariant-loop-child
invariant-loop-child l = Clears l.fn.state l.above l.state

abbrev pub decreases-loop-child : goal.decreases-loop-child
decreases-loop-child l = count_by (λ q. is_some (parent_of l.state q)) (keys l.fn.state.parents)
