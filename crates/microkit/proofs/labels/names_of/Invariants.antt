-- The subjects that are left, behind the names so far, have the names that all of them have.
use Rattle.std.proofs.Common.{[], ◌≡◌, drop}
use Rattle.microkit.specs.{LabelView.{bytes_of}, Labels.{names_from}, View.{description_of}}
use Rattle.microkit.proofs.labels.names_of.Given as goal

abbrev pub invariant-loop-subject : goal.invariant-loop-subject
invariant-loop-subject l =
    names_from (description_of l.description) (bytes_of l.names.items) (drop l.subject-index l.subjects)
    ≡ names_from (description_of l.description) [] l.subjects
