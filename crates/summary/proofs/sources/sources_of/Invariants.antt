use Rattle.std.proofs.Common.{ℕ, ◌↔◌, ◌≡◌, true}
use Rattle.{base.specs.Labels.is_in, policy.{specs.Policy.allows, proofs.Stepping.IsBelow}}
use Rattle.summary.proofs.sources.sources_of.Given as goal

-- of the labels so far, those with the edge are found
abbrev pub invariant-loop-number : goal.invariant-loop-number
invariant-loop-number l =
    (label : ℕ) → (is_in l.found label ≡ true) ↔ IsBelow (λ k. (label ≡ k) × (allows l.policy k l.kind l.to ≡ true)) l.number
