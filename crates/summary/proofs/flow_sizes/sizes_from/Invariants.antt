use Rattle.std.proofs.Common.{ℕ, ◌<◌, ◌≡◌, get_or, length}
use Rattle.{reach.specs.Extents.limits_of, summary.specs.{declared.flow_sizes.Size.Size as size, FlowMatrix.IsSize}}
use Rattle.summary.proofs.flow_sizes.sizes_from.Given as goal

-- the sizes for the labels so far are there
abbrev pub invariant-loop-to : goal.invariant-loop-to
invariant-loop-to l =
    (length l.sizes.items ≡ l.to-index)
    × ((k : ℕ) → k < l.to-index → IsSize (limits_of l.graph) l.from (get_or l.labels k 0) (get_or l.sizes.items k size.Direct))
