use Rattle.std.proofs.Common.{ℕ, ◌<◌, ◌↔◌, ◌≡◌, length, true}
use Rattle.{base.specs.Labels.is_in, policy.specs.Policy.allows, summary.specs.Sources.row_at}
use Rattle.summary.proofs.sources.rows_of.Given as goal

-- the rows of the labels so far are there
abbrev pub invariant-loop-number : goal.invariant-loop-number
invariant-loop-number l =
    (length l.rows.items ≡ l.number)
    × ((to : ℕ) → to < l.number → (from : ℕ) → (is_in (row_at l.rows.items to) from ≡ true) ↔ (allows l.policy from l.kind to ≡ true))
