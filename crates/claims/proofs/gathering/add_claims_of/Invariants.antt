-- The claims on the labels so far.
use Rattle.std.{specs.List.flat_map, proofs.Common.{◌++◌, ◌≡◌, Some, map, take}}
use Rattle.claims.specs.{Rows.row_extent, Strongest.claims_on}
use Rattle.claims.proofs.gathering.add_claims_of.Given as goal

abbrev pub invariant-loop-object : goal.invariant-loop-object
invariant-loop-object l =
    l.lines ≡ l.fn.lines ++ map Some (flat_map (claims_on (row_extent l.fn.row) l.fn.actor) (take l.object-index l.objects))
