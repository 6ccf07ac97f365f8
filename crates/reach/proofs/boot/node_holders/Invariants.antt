use Rattle.std.proofs.Common.{ℕ, ◌↔◌, ◌≡◌, true}
use Rattle.{base.specs.Labels.is_in, policy.proofs.Stepping.IsBelow, reach.proofs.Holding.HoldsAt}
use Rattle.reach.proofs.boot.node_holders.Given as goal

abbrev pub invariant-loop-filled : goal.invariant-loop-filled
invariant-loop-filled l = (a : ℕ) → (is_in l.found a ≡ true) ↔ IsBelow (HoldsAt l.table a) l.filled-index
