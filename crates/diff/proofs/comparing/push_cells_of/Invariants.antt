-- All changes of the cells so far are added.
use Rattle.std.{specs.List.flat_map, proofs.Common.{◌++◌, ◌≡◌, take}}
use Rattle.diff.specs.Changes.{cell_change}
use Rattle.diff.proofs.comparing.push_cells_of.Given as goal

abbrev pub invariant-loop-to : goal.invariant-loop-to
invariant-loop-to l = l.changes.items ≡ l.fn.changes.items ++ flat_map (cell_change l.old l.new l.from) (take l.to-index l.names)
