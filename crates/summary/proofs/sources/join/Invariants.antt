use Rattle.std.proofs.Common.{ℕ, ◌↔◌, ◌≡◌, true}
use Rattle.{base.specs.Labels.is_in, policy.proofs.Stepping.IsBelow, summary.specs.Sources.row_at}
use Rattle.summary.proofs.sources.join.Given as goal

-- what is in the rows so far is found
abbrev pub invariant-loop-number : goal.invariant-loop-number
invariant-loop-number l =
    (label : ℕ) → (is_in l.found label ≡ true)
    ↔ IsBelow (λ k. (is_in l.set k ≡ true) × (is_in (row_at l.rows k) label ≡ true)) l.number
