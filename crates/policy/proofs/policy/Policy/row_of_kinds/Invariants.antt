use Rattle.std.proofs.Common.{ℕ, ◌≡◌, take}
use Rattle.{base.specs.Labels.is_in, policy.specs.{Policy.allows, Steps.is_joined}}
use Rattle.policy.proofs.policy.Policy.row_of_kinds.Given as goal

abbrev pub invariant-loop-kind : goal.invariant-loop-kind
invariant-loop-kind l = (to : ℕ) → is_in l.row to ≡ is_joined (allows l.self) (take l.kind-index l.kinds) l.from to
