-- no kind so far has any labels
use Rattle.std.proofs.Common.{◌<◌}
use Rattle.{base.specs.{declared.{kind.Kind.Kind, labels.Labels.Labels}, Kinds.kind_number}, policy.specs.Search.IsNobody}
use Rattle.policy.proofs.broken.cells.first_cell.Given as goal

abbrev pub invariant-loop-kind : goal.invariant-loop-kind
invariant-loop-kind g l =
    (kind : Kind) → kind_number kind < l.kind-index → (labels : Labels) × goal.F-post g l.labels_at kind labels × IsNobody labels
