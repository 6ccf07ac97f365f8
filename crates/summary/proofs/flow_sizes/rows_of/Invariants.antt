use Rattle.std.{specs.{List.range_with_len, Prelude.All}, proofs.Common.{◌≡◌, map, take}}
use Rattle.{reach.specs.Extents.limits_of, summary.specs.FlowMatrix.IsFlowRow}
use Rattle.summary.proofs.flow_sizes.rows_of.Given as goal

-- the rows of the labels so far are there
abbrev pub invariant-loop-index : goal.invariant-loop-index
invariant-loop-index l =
    (map (λ row. row.label) l.rows.items ≡ take l.index l.labels)
    × (map (λ row. row.number) l.rows.items ≡ range_with_len 1 l.index)
    × All (IsFlowRow (limits_of l.graph) l.labels) l.rows.items
