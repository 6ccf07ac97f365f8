-- The names of the labels so far are added.
use Rattle.std.{specs.List.{flat_map, range_with_len}, proofs.Common.{◌++◌, ◌≡◌}}
use Rattle.diff.specs.Names.{old_name}
use Rattle.diff.proofs.names.push_old.Given as goal

abbrev pub invariant-loop-number : goal.invariant-loop-number
invariant-loop-number l = l.names.items ≡ l.fn.names.items ++ flat_map (old_name l.old l.new) (range_with_len 0 l.number)
