-- The labels so far.
use Rattle.std.proofs.Common.{ℕ, ◌<◌, ◌↔◌, ◌≡◌, true}
use Rattle.base.specs.Labels.{is_in}
use Rattle.base.proofs.labels.Labels.below.Given as goal

abbrev pub invariant-loop-number : goal.invariant-loop-number
invariant-loop-number l = (label : ℕ) → (is_in l.labels label ≡ true) ↔ (label < l.number)
