-- The claims of the labels so far.
use Rattle.std.{specs.List.flat_map, proofs.Common.{◌++◌, ◌≡◌, Some, map, take}}
use Rattle.claims.specs.{Rows.extents_of, Strongest.claims_of}
use Rattle.claims.proofs.gathering.add_claims_among.Given as goal

abbrev pub invariant-loop-actor : goal.invariant-loop-actor
invariant-loop-actor l =
    l.lines ≡ l.fn.lines ++ map Some (flat_map (claims_of (extents_of l.rows) l.programs) (take l.actor-index l.programs))
