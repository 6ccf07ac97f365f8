-- The labels are known for whose notifications one of the labels so far waits, and those for which two do.
use Rattle.std.proofs.Common.{ℕ, ◌↔◌, ◌≡◌, true}
use Rattle.{base.specs.Labels.is_in, policy.specs.Policy.allows, flows.proofs.Contested.{IsOnce, IsTwice}}
use Rattle.flows.proofs.seeing.contested.Given as goal

abbrev pub invariant-loop-number : goal.invariant-loop-number
invariant-loop-number l = record {
  once : (x : ℕ) → (is_in l.once x ≡ true) ↔ IsOnce (allows l.policy) (is_in l.actors) x l.number;
  twice : (x : ℕ) → (is_in l.twice x ≡ true) ↔ IsTwice (allows l.policy) (is_in l.actors) x l.number;
}
