use Rattle.std.proofs.Common.{ℕ, ◌<◌, ◌≡◌, ◌⊎◌, None}
use Rattle.runs.specs.Sights.{held_at}
use Rattle.runs.proofs.comparing.lose_caps.Given as goal

abbrev pub invariant-loop-index : goal.invariant-loop-index
invariant-loop-index l = (k : ℕ) → k < l.index → (held_at l.is k ≡ held_at l.was k) ⊎ (held_at l.is k ≡ None)
