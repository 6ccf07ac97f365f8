use Rattle.std.proofs.Common.{length}
use Rattle.policy.proofs.policy.Policy.+guarded_walk.Given as goal

abbrev pub decreases-guarded_walk : goal.decreases-guarded_walk
decreases-guarded_walk l = length l.turns.now
