use Rattle.std.proofs.Common.{ℕ, ◌↔◌, ◌≡◌, true}
use Rattle.{base.specs.Labels.is_in, policy.{specs.{Change.MayHoldCaller, Policy.allows}, proofs.Stepping.IsBelow}}
use Rattle.policy.proofs.policy.Policy.answered.Given as goal

abbrev pub invariant-loop-number : goal.invariant-loop-number
invariant-loop-number l =
    (object : ℕ) → (is_in l.found object ≡ true)
    ↔ IsBelow (λ reply. (is_in l.replies reply ≡ true) × MayHoldCaller (allows l.self) (is_in l.actors) reply object) l.number
