use Rattle.{std.{specs.List.flat_map, proofs.Common.{◌++◌, ◌≡◌, string_bytes, take}}, summary.specs.Matrix.cell_text}
use Rattle.summary.proofs.matrix.write_cells.Given as goal

abbrev pub invariant-loop-other : goal.invariant-loop-other
invariant-loop-other g l = string_bytes l.text ≡ string_bytes l.fn.text ++ flat_map (cell_text g.R.MatrixRow.cells l.row) (take l.other-index l.shown)
