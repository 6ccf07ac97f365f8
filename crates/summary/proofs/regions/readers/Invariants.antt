use Rattle.std.{specs.List.filter, proofs.Common.{◌≡◌, map, take}}
use Rattle.base.specs.Labels.{is_in}
use Rattle.summary.proofs.regions.readers.Given as goal

-- those so far that read the label are kept
abbrev pub invariant-loop-row : goal.invariant-loop-row
invariant-loop-row l = l.found.items ≡ map (λ row. row.label) (filter (λ row. is_in row.reads l.fn.label) (take l.row-index l.rows))
