-- All changes of what labels are so far are added.
use Rattle.std.{specs.List.flat_map, proofs.Common.{◌++◌, ◌≡◌, take}}
use Rattle.diff.specs.Changes.{standing_change}
use Rattle.diff.proofs.comparing.push_standings.Given as goal

abbrev pub invariant-loop-named : goal.invariant-loop-named
invariant-loop-named l = l.changes.items ≡ l.fn.changes.items ++ flat_map (standing_change l.old l.new) (take l.named-index l.names)
