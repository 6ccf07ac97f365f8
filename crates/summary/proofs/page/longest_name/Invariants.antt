use Rattle.std.{specs.{List.fold, Prelude.max}, proofs.Common.{◌≡◌, length, take}}
use Rattle.captext.specs.PolicyText.{label_name}
use Rattle.summary.proofs.page.longest_name.Given as goal

abbrev pub invariant-loop-row : goal.invariant-loop-row
invariant-loop-row g l =
    l.longest ≡ fold (λ longest row. max longest (length (label_name l.table (g.R.MatrixRow.cells.label row)))) 0 (take l.row-index l.rows)
