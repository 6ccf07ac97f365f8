-- The labels so far are distinct, and these are in the set.
use Rattle.std.proofs.Common.{[], ℕ, ◌≡◌, drop, take}
use Rattle.{base.specs.Labels.is_in, claims.specs.{Claims.is_one_of, Reading.are_distinct}}
use Rattle.claims.proofs.reading.are_distinct.Given as goal

abbrev pub invariant-loop-label : goal.invariant-loop-label
invariant-loop-label l =
    ((label : ℕ) → is_in l.before label ≡ is_one_of (take l.label-index l.labels) label)
    × (are_distinct (take l.label-index l.labels) (drop l.label-index l.labels) ≡ are_distinct [] l.labels)
