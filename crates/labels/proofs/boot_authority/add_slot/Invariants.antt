use Rattle.std.proofs.Common.{ℕ, ◌||◌, ◌≡◌, take}
use Rattle.{base.specs.declared.kind.Kind.Kind, policy.specs.Policy.allows}
use Rattle.labels.proofs.boot_authority.add_slot.Given as goal

abbrev pub invariant-loop-edge : goal.invariant-loop-edge
invariant-loop-edge l =
    (from : ℕ) (kind : Kind) (to : ℕ) → allows l.found from kind to
    ≡ (allows l.fn.found from kind to || allows (take l.edge-index l.edge-items) from kind to)
