use Rattle.std.{specs.List.{filter, range_with_len}, proofs.Common.◌≡◌}
use Rattle.summary.specs.Labelled.{has_thread}
use Rattle.summary.proofs.labelled.programs.Given as goal

-- those of the labels so far that have a thread are kept
abbrev pub invariant-loop-number : goal.invariant-loop-number
invariant-loop-number l = l.labels.items ≡ filter (has_thread l.table) (range_with_len 0 l.number)
