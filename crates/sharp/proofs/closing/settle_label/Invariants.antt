use Rattle.std.proofs.Common.{ℕ, ◌<◌, ◌≡◌, false, true}
use Rattle.{base.specs.{declared.kind.Kind.Kind, Kinds.kind_number, Labels.is_in}, policy.specs.{Policy.allows, Sharp.Told}}
use Rattle.sharp.specs.{Asked.{IsSettledAmong, SharesSharply}, Least.GrowsSharply}
use Rattle.sharp.proofs.closing.settle_label.Given as goal

-- no edge of the kinds so far is missing if nothing changed; and the labels that shared still share
abbrev pub invariant-loop-kind : goal.invariant-loop-kind
invariant-loop-kind l = record {
  grows : GrowsSharply l.keeping l.initial.policy l.policy l.changed;
  settled : l.changed ≡ false → (kind : Kind) → kind_number kind < l.kind-index
      → IsSettledAmong (allows l.policy) (Told (is_in l.keeping)) (Told (is_in l.sharing)) l.from kind;
  share : (giver : ℕ) → is_in l.sharing giver ≡ true → SharesSharply (allows l.policy) (Told (is_in l.keeping)) giver l.from;
}
