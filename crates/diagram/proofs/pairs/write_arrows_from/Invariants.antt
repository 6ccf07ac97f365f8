use Rattle.{std.proofs.Common.string_bytes, reach.specs.Extents.limits_by, diagram.specs.Drawing.{AddsArrows, pairs_with}}
use Rattle.diagram.proofs.pairs.write_arrows_from.Given as goal

-- the arrows to the labels so far are written
abbrev pub invariant-loop-number : goal.invariant-loop-number
invariant-loop-number l =
    AddsArrows (limits_by l.policy l.fn.actors) l.table (pairs_with l.number l.fn.actor) (string_bytes l.fn.text) (string_bytes l.text)
