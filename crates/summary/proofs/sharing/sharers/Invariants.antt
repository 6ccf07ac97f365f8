use Rattle.std.proofs.Common.{ℕ, ◌<◌, ◌↔◌, ◌≡◌, length, true}
use Rattle.{base.specs.Labels.is_in, policy.specs.Policy.allows, summary.specs.{Sharing.HasMemoryOf, Sources.row_at}}
use Rattle.summary.proofs.sharing.sharers.Given as goal

-- the rows of the labels so far are there
abbrev pub invariant-loop-number : goal.invariant-loop-number
invariant-loop-number l =
    (length l.rows.items ≡ l.number)
    × ((region : ℕ) → region < l.number → (other : ℕ)
    → (is_in (row_at l.rows.items region) other ≡ true) ↔ HasMemoryOf l.table (allows l.policy) region other)
