use Rattle.std.proofs.Common.{ℕ, ◌↔◌, ◌≡◌, true}
use Rattle.{base.specs.Labels.is_in, policy.proofs.Stepping.IsBelow, reach.proofs.WhoActs.HasSource}
use Rattle.reach.proofs.acting.with_threads.Given as goal

abbrev pub invariant-loop-initial : goal.invariant-loop-initial
invariant-loop-initial l = (a : ℕ) → (is_in l.found a ≡ true) ↔ IsBelow (HasSource l.table a) l.initial-index
