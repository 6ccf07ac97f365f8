use Rattle.std.{specs.List.filter, proofs.Common.{◌≡◌, map, take}}
use Rattle.summary.specs.Regions.{takes_from}
use Rattle.summary.proofs.regions.takers.Given as goal

-- those so far that only take from the label are kept
abbrev pub invariant-loop-row : goal.invariant-loop-row
invariant-loop-row l = l.found.items ≡ map (λ row. row.label) (filter (λ row. takes_from row l.fn.label) (take l.row-index l.rows))
