use Rattle.std.{specs.List.flat_map, proofs.Common.{◌≡◌, map, take}}
use Rattle.{serde_json.specs.View.view, reptext.specs.Summaries.cells_of}
use Rattle.reptext.proofs.summaries.cells.Given as goal

-- the cells of the rows so far are kept
abbrev pub invariant-loop-row : goal.invariant-loop-row
invariant-loop-row l = map view l.cells.items ≡ flat_map (cells_of l.table l.rows) (take l.row-index l.rows)
