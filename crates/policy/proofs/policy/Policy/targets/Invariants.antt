use Rattle.std.proofs.Common.{ℕ, ◌↔◌, ◌≡◌, true}
use Rattle.{base.specs.Labels.is_in, policy.{specs.{Policy.allows, Steps.is_joined}, proofs.Stepping.IsBelow}}
use Rattle.policy.proofs.policy.Policy.targets.Given as goal

abbrev pub invariant-loop-number : goal.invariant-loop-number
invariant-loop-number l =
    (to : ℕ) → (is_in l.found to ≡ true)
    ↔ IsBelow (λ from. (is_in l.froms from ≡ true) × (is_joined (allows l.self) l.kinds from to ≡ true)) l.number
