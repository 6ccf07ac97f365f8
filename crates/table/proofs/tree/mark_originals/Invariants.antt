use Rattle.table.{specs.Tree.{tree_of, with_mark}, proofs.TreeLemmas.Marked}
use Rattle.table.proofs.tree.mark_originals.Given as goal

abbrev pub invariant-loop-i : goal.invariant-loop-i
invariant-loop-i l = Marked l.fn.caps l.caps (with_mark (tree_of l.fn.caps l.pairs)) l.i
