use Rattle.std.proofs.Common.{ℕ, ◌<◌, ◌≡◌, false}
use Rattle.{base.specs.{declared.kind.Kind.Kind, Labels.is_in}, policy.specs.{Policy.allows, Sharp.Told}}
use Rattle.sharp.specs.{Asked.IsSharplySettled, Least.GrowsSharply}
use Rattle.sharp.proofs.closing.settle_labels.Given as goal

-- no edge is missing at the labels so far if nothing changed
abbrev pub invariant-loop-number : goal.invariant-loop-number
invariant-loop-number l = record {
  grows : GrowsSharply l.keeping l.initial.policy l.policy l.changed;
  settled : l.changed ≡ false → (from : ℕ) → from < l.number → (kind : Kind)
      → IsSharplySettled (allows l.policy) (Told (is_in l.keeping)) from kind;
}
