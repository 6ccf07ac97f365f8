-- The labels so far, and those of the names that are left, are those of all names.
use Rattle.std.proofs.Common.{[], ◌≡◌, drop, map}
use Rattle.claims.specs.Reading.{labels_named}
use Rattle.claims.proofs.reading.labels.Given as goal

abbrev pub invariant-loop-name : goal.invariant-loop-name
invariant-loop-name l =
    labels_named l.table l.labels (map (λ name. name.now) (drop l.name-index l.names))
    ≡ labels_named l.table [] (map (λ name. name.now) l.names)
