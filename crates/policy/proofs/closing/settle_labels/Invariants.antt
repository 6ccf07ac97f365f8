use Rattle.std.proofs.Common.{ℕ, ◌<◌, ◌≡◌, false}
use Rattle.{base.specs.declared.kind.Kind.Kind, policy.specs.{Policy.allows, Settling.{Grows, IsSettled}}}
use Rattle.policy.proofs.closing.settle_labels.Given as goal

-- if nothing changed, no edge is missing at the labels so far
abbrev pub invariant-loop-number : goal.invariant-loop-number
invariant-loop-number l = record {
  grows : Grows l.initial.policy l.policy l.changed;
  settled : l.changed ≡ false → (from : ℕ) → from < l.number → (kind : Kind) → IsSettled (allows l.policy) from kind;
}
