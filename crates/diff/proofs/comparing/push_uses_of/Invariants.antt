-- All changes of the uses so far are added.
use Rattle.std.{specs.List.flat_map, proofs.Common.{◌++◌, ◌≡◌, take}}
use Rattle.diff.specs.Changes.{use_changes}
use Rattle.diff.proofs.comparing.push_uses_of.Given as goal

abbrev pub invariant-loop-to : goal.invariant-loop-to
invariant-loop-to l = l.changes.items ≡ l.fn.changes.items ++ flat_map (use_changes l.old l.new l.from) (take l.to-index l.names)
