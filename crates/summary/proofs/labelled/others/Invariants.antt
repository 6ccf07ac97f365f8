use Rattle.std.{specs.List.{filter, range_with_len}, proofs.Common.{◌≡◌, not}}
use Rattle.summary.specs.Labelled.{has_thread}
use Rattle.summary.proofs.labelled.others.Given as goal

-- those of the labels so far that have no thread are kept
abbrev pub invariant-loop-number : goal.invariant-loop-number
invariant-loop-number l = l.labels.items ≡ filter (λ label. not (has_thread l.table label)) (range_with_len 0 l.number)
