use Rattle.std.proofs.Common.{ℕ, ◌||◌, ◌≡◌, take}
use Rattle.{base.specs.declared.kind.Kind.Kind, policy.specs.Policy.allows}
use Rattle.policy.proofs.policy.Policy.extend.Given as goal

abbrev pub invariant-loop-edge : goal.invariant-loop-edge
invariant-loop-edge l =
    (from : ℕ) (kind : Kind) (to : ℕ)
    → allows l.self from kind to ≡ (allows (take l.edge-index l.edges) from kind to || allows l.initial.self from kind to)
