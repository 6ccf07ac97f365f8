use Rattle.std.proofs.Common.{ℕ, ◌↔◌, ◌≡◌, true}
use Rattle.{base.specs.Labels.is_in, policy.{specs.{Policy.allows, Steps.IsSource}, proofs.Stepping.IsBelow}}
use Rattle.policy.proofs.policy.Policy.sources.Given as goal

abbrev pub invariant-loop-number : goal.invariant-loop-number
invariant-loop-number l =
    (from : ℕ) → (is_in l.found from ≡ true) ↔ IsBelow (λ k. (from ≡ k) × IsSource (allows l.self) l.kinds l.tos k) l.number
