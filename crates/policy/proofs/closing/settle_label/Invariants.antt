use Rattle.std.proofs.Common.{ℕ, ◌<◌, ◌↔◌, ◌≡◌, false, true}
use Rattle.base.specs.{declared.kind.Kind.Kind, Kinds.kind_number, Labels.is_in}
use Rattle.policy.specs.{Policy.allows, Settling.{Grows, IsSettled, Shares}}
use Rattle.policy.proofs.closing.settle_label.Given as goal

-- if nothing changed, no edge of the kinds so far is missing; and the labels that share with the label
abbrev pub invariant-loop-kind : goal.invariant-loop-kind
invariant-loop-kind l = record {
  grows : Grows l.initial.policy l.policy l.changed;
  settled : l.changed ≡ false → (kind : Kind) → kind_number kind < l.kind-index → IsSettled (allows l.policy) l.from kind;
  shares : (giver : ℕ) → (is_in l.sharing giver ≡ true) ↔ Shares (allows l.policy) giver l.from;
}
