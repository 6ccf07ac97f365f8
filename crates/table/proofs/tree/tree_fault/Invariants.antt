use Rattle.std.proofs.Common.{[], ℕ, ◌<◌, ◌≡◌, get_or, true}
use Rattle.{machine.specs.declared.layout.Pair.Pair, table.specs.Tree.{is_kin, tree_of}}
use Rattle.table.proofs.tree.tree_fault.Given as goal

-- the pairs so far keep the rules
abbrev pub invariant-loop-number : goal.invariant-loop-number
invariant-loop-number l = (k : ℕ) (d : Pair) → k < l.number → is_kin (tree_of l.caps []) (get_or l.pairs k d) ≡ true
