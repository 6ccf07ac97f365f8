use Rattle.std.{specs.List.flat_map, proofs.Common.{◌++◌, ◌≡◌, string_bytes, take}}
use Rattle.diagram.specs.Drawing.{label_line}
use Rattle.diagram.proofs.pairs.write_labels.Given as goal

-- the lines of the labels so far are written
abbrev pub invariant-loop-number : goal.invariant-loop-number
invariant-loop-number l =
    string_bytes l.text ≡ string_bytes l.fn.text ++ flat_map label_line (take l.number l.table.labels)
