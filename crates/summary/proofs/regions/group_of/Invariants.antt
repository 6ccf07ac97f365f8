use Rattle.std.{specs.List.filter, proofs.Common.{◌≡◌, take}}
use Rattle.summary.specs.Regions.{has_same_users}
use Rattle.summary.proofs.regions.group_of.Given as goal

-- those with the same users so far are kept
abbrev pub invariant-loop-other : goal.invariant-loop-other
invariant-loop-other l = l.group.items ≡ filter (λ k. has_same_users l.rows k l.fn.label) (take l.other-index l.others)
