use Rattle.{std.{specs.List.flat_map, proofs.Common.{◌++◌, ◌≡◌, string_bytes, take}}, summary.specs.Matrix.number_text}
use Rattle.summary.proofs.matrix.write_numbers.Given as goal

abbrev pub invariant-loop-row : goal.invariant-loop-row
invariant-loop-row g l = string_bytes l.text ≡ string_bytes l.fn.text ++ flat_map (number_text g.R.MatrixRow.cells) (take l.row-index l.shown)
