use Rattle.std.proofs.Common.{length}
use Rattle.policy.proofs.policy.Policy.+guarded_reaching.Given as goal

abbrev pub decreases-guarded_reaching : goal.decreases-guarded_reaching
decreases-guarded_reaching l = length l.turns.now
