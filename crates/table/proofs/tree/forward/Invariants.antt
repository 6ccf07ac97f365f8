use Rattle.std.proofs.Common.{◌-◌, length}
use Rattle.table.proofs.tree.forward.Given as goal

abbrev pub invariant-loop-near : goal.invariant-loop-near
invariant-loop-near l = Unit {0}

abbrev pub decreases-loop-near : goal.decreases-loop-near
decreases-loop-near l = length l.caps - l.near
