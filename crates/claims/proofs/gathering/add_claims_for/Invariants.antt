-- The claims for the labels so far.
use Rattle.std.proofs.Common.{◌++◌, ◌≡◌, Some, map, take}
use Rattle.{summary.specs.Labelled.labels_of, claims.specs.{Rows.extents_of, Strongest.claim_to}}
use Rattle.claims.proofs.gathering.add_claims_for.Given as goal

abbrev pub invariant-loop-object : goal.invariant-loop-object
invariant-loop-object l =
    l.lines ≡ l.fn.lines ++ map Some (map (claim_to (extents_of l.rows) (labels_of l.table)) (take l.object-index l.others))
