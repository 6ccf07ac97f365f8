use Rattle.std.{specs.List.flat_map, proofs.Common.{◌++◌, ◌≡◌, map, take}}
use Rattle.{serde_json.specs.View.view, reptext.specs.Summaries.told_cell}
use Rattle.reptext.proofs.summaries.push_cells.Given as goal

-- the cells so far are added
abbrev pub invariant-loop-other : goal.invariant-loop-other
invariant-loop-other l =
    map view l.cells.items ≡ map view l.fn.cells.items ++ flat_map (told_cell l.table l.row) (take l.other-index l.rows)
