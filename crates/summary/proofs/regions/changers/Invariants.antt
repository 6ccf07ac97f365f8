use Rattle.std.{specs.List.filter, proofs.Common.{◌≡◌, map, take}}
use Rattle.base.specs.Labels.{is_in}
use Rattle.summary.proofs.regions.changers.Given as goal

-- those so far that may change the label are kept
abbrev pub invariant-loop-row : goal.invariant-loop-row
invariant-loop-row l = l.found.items ≡ map (λ row. row.label) (filter (λ row. is_in row.changes l.fn.label) (take l.row-index l.rows))
