-- The labels found so far keep, and the labels that keep by one step from them are known.
use Rattle.std.proofs.Common.{ℕ, ◌↔◌, ◌≡◌, true}
use Rattle.{base.specs.Labels.is_in, policy.specs.Policy.allows, sharp.{specs.Keeping.{KeepsNext, KeepsFrom}, proofs.Missing.missing_below}}
use Rattle.sharp.proofs.keeping.keepers.Given as goal

abbrev pub invariant-loop-label : goal.invariant-loop-label
invariant-loop-label l = record {
  begins : (a : ℕ) → is_in l.fn.held a ≡ true → is_in l.keeping a ≡ true;
  keep : (a : ℕ) → is_in l.keeping a ≡ true → KeepsFrom (allows l.policy) (is_in l.fn.held) a;
  steps : (a : ℕ) → (is_in l.more a ≡ true) ↔ KeepsNext (allows l.policy) (is_in l.keeping) a;
}

abbrev pub decreases-loop-label : goal.decreases-loop-label
decreases-loop-label l = missing_below (is_in l.keeping) 256
