use Rattle.std.{specs.List.{flat_map, range_with_len}, proofs.Common.◌≡◌}
use Rattle.{microkit.specs.{LabelView.bytes_of, View.description_of}, separation.specs.Claims.pairs_at}
use Rattle.separation.proofs.claims.pairs_of.Given as goal

abbrev pub invariant-loop-actor : goal.invariant-loop-actor
invariant-loop-actor l =
    l.pairs.items
    ≡ flat_map (pairs_at (description_of l.description) (bytes_of l.runners) l.subjects) (range_with_len 0 l.actor)
