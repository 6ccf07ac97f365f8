-- All changes of the edges so far are added.
use Rattle.std.{specs.List.flat_map, proofs.Common.{◌++◌, ◌≡◌, take}}
use Rattle.diff.specs.Changes.{lost_edge}
use Rattle.diff.proofs.edges.push_lost_among.Given as goal

abbrev pub invariant-loop-edge : goal.invariant-loop-edge
invariant-loop-edge l = l.changes.items ≡ l.fn.changes.items ++ flat_map (lost_edge l.old l.new) (take l.edge-index l.edges)
