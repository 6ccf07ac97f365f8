use Rattle.std.proofs.Common.{ℕ, ◌↔◌, ◌≡◌, true}
use Rattle.{base.specs.Labels.is_in, policy.proofs.Stepping.IsBelow, reach.proofs.WhoActs.HasReady}
use Rattle.reach.proofs.acting.starting.Given as goal

abbrev pub invariant-loop-binding : goal.invariant-loop-binding
invariant-loop-binding l = (a : ℕ) → (is_in l.found a ≡ true) ↔ IsBelow (HasReady l.table a) l.binding-index
