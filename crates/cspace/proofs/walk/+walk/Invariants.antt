-- Each CNode takes at least one bit.
use Rattle.cspace.proofs.walk.+walk.Given as goal

abbrev pub decreases-walk : goal.decreases-walk
decreases-walk l = l.left
