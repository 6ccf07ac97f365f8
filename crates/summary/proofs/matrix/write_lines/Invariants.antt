use Rattle.{std.{specs.List.flat_map, proofs.Common.{◌++◌, ◌≡◌, string_bytes, take}}, summary.specs.Matrix.line_text}
use Rattle.summary.proofs.matrix.write_lines.Given as goal

abbrev pub invariant-loop-row : goal.invariant-loop-row
invariant-loop-row g l =
    string_bytes l.text ≡ string_bytes l.fn.text ++ flat_map (line_text g.R.MatrixRow.cells l.table l.fn.page l.shown) (take l.row-index l.rows)
