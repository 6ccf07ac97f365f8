-- All changes of the uses so far are added.
use Rattle.std.{specs.List.flat_map, proofs.Common.{◌++◌, ◌≡◌, take}}
use Rattle.diff.specs.Changes.{use_changes}
use Rattle.diff.proofs.comparing.push_uses.Given as goal

abbrev pub invariant-loop-from : goal.invariant-loop-from
invariant-loop-from l = l.changes.items ≡ l.fn.changes.items ++ flat_map (λ from. flat_map (use_changes l.old l.new from) l.names) (take l.from-index l.names)
