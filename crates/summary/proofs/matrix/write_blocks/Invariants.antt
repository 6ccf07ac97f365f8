use Rattle.{std.{specs.List.{flat_map, range_with_len}, proofs.Common.{◌++◌, ◌≡◌, string_bytes}}, summary.specs.Matrix.block_from}
use Rattle.summary.proofs.matrix.write_blocks.Given as goal

abbrev pub invariant-loop-first : goal.invariant-loop-first
invariant-loop-first g l =
    string_bytes l.text ≡ string_bytes l.fn.text ++ flat_map (block_from g.R.MatrixRow.cells l.table l.fn.page l.rows) (range_with_len 0 l.first)
