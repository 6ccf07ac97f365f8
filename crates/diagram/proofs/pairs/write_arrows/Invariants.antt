use Rattle.std.{specs.List.{flat_map, range_with_len}, proofs.Common.{length, string_bytes}}
use Rattle.{reach.specs.Extents.limits_by, diagram.specs.Drawing.{AddsArrows, pairs_with}}
use Rattle.diagram.proofs.pairs.write_arrows.Given as goal

-- the arrows from the labels so far are written
abbrev pub invariant-loop-number : goal.invariant-loop-number
invariant-loop-number l =
    AddsArrows (limits_by l.policy l.fn.actors) l.table (flat_map (pairs_with (length l.table.labels)) (range_with_len 0 l.number))
    (string_bytes l.fn.text) (string_bytes l.text)
