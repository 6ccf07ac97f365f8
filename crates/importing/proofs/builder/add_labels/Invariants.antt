-- The labels so far are the first ones.
use Rattle.std.proofs.Common.{◌≡◌}
use Rattle.{microkit.specs.LabelView.bytes_of, importing.{specs.Groups.labels_at, proofs.Labels.first_labels}}
use Rattle.importing.proofs.builder.add_labels.Given as goal

abbrev pub invariant-loop-place : goal.invariant-loop-place
invariant-loop-place l = l.draft ≡ first_labels (labels_at (bytes_of l.plan.names.items) l.plan.places.items) l.place-index
