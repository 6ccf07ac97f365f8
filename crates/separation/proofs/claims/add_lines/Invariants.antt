use Rattle.std.proofs.Common.{◌++◌, ◌≡◌, take}
use Rattle.{microkit.specs.LabelView.bytes_of, separation.specs.Claims.lines_of}
use Rattle.separation.proofs.claims.add_lines.Given as goal

abbrev pub invariant-loop-pair : goal.invariant-loop-pair
invariant-loop-pair l = l.text.items ≡ l.initial.text.items ++ lines_of (bytes_of l.names) (take l.pair-index l.pairs)
