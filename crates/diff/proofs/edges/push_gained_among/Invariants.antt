-- All changes of the edges so far are added.
use Rattle.std.{specs.List.flat_map, proofs.Common.{◌++◌, ◌≡◌, take}}
use Rattle.diff.specs.Changes.{gained_edge}
use Rattle.diff.proofs.edges.push_gained_among.Given as goal

abbrev pub invariant-loop-edge : goal.invariant-loop-edge
invariant-loop-edge l = l.changes.items ≡ l.fn.changes.items ++ flat_map (gained_edge l.old l.new) (take l.edge-index l.edges)
