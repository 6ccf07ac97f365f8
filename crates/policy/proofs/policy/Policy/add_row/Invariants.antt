use Rattle.std.proofs.Common.{ℕ, ◌<◌, ◌≡◌, ◌⊎◌, true}
use Rattle.{base.specs.{declared.kind.Kind.Kind, Labels.is_in}, policy.specs.{Closing.IsWithin, Policy.allows}}
use Rattle.policy.proofs.policy.Policy.add_row.Given as goal

-- the edges to the labels so far are added, and no other
abbrev pub invariant-loop-number : goal.invariant-loop-number
invariant-loop-number l = record {
  kept : IsWithin (allows l.initial.self) (allows l.self);
  joined : (to : ℕ) → to < l.number → is_in l.to to ≡ true → allows l.self l.from l.kind to ≡ true;
  only : (start : ℕ) (way : Kind) (end : ℕ) → allows l.self start way end ≡ true
      → (allows l.initial.self start way end ≡ true) ⊎ ((start ≡ l.from) × (way ≡ l.kind) × (is_in l.to end ≡ true));
}
