-- None of the first filled slots is loose.
use Rattle.noninterference.proofs.LooseSlots.{NoneLoose}
use Rattle.noninterference.proofs.deciding.is_fixed.Given as goal

abbrev pub invariant-loop-filled : goal.invariant-loop-filled
invariant-loop-filled l = NoneLoose l.table l.filled-index
