-- The cascade has come as far as it has looked.
use Rattle.removal.proofs.Cascading.{Cascades}
use Rattle.removal.proofs.caps.cascade.Given as goal

abbrev pub invariant-loop-next : goal.invariant-loop-next
invariant-loop-next l = Cascades l.fn.state l.state l.next
