use Rattle.std.proofs.Common.{ℕ, ◌<◌, ◌↔◌, ◌≡◌, length, true}
use Rattle.{base.specs.Labels.is_in, policy.specs.{Change.MayHoldCaller, Policy.allows}, summary.specs.Sources.row_at}
use Rattle.summary.proofs.ways.callers_of_replies.Given as goal

-- the rows of the labels so far are there
abbrev pub invariant-loop-number : goal.invariant-loop-number
invariant-loop-number l =
    (length l.rows.items ≡ l.number)
    × ((reply : ℕ) → reply < l.number → (caller : ℕ)
    → (is_in (row_at l.rows.items reply) caller ≡ true) ↔ MayHoldCaller (allows l.policy) (is_in l.actors) reply caller)
