use Rattle.std.{specs.{List.range_with_len, Prelude.All}, proofs.Common.{◌≡◌, map, take}}
use Rattle.{reach.specs.Extents.limits_by, summary.specs.Rows.IsRowOf}
use Rattle.summary.proofs.rows.rows_of.Given as goal

-- the rows of the labels so far are there
abbrev pub invariant-loop-index : goal.invariant-loop-index
invariant-loop-index l =
    (map (λ row. row.label) l.rows.items ≡ take l.index l.label-items)
    × (map (λ row. row.number) l.rows.items ≡ range_with_len 1 l.index)
    × All (IsRowOf l.table (limits_by l.policy l.fn.actors)) l.rows.items
