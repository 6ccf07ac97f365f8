use Rattle.std.proofs.Common.{◌≡◌, take}
use Rattle.microkit.specs.LabelView.{bytes_of}
use Rattle.report.proofs.describing.label_names.Given as goal

-- the names of the labels so far are copied
abbrev pub invariant-loop-number : goal.invariant-loop-number
invariant-loop-number l = bytes_of l.names.items ≡ take l.number l.table.labels
