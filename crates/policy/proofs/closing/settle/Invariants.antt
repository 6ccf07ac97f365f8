use Rattle.policy.{specs.{Closed.IsClosed, Closing.IsWithin, Domain.EdgeTest, Policy.allows}, proofs.ClosingGrowth.absent_count}
use Rattle.policy.proofs.closing.settle.Given as goal

-- the old edges are there, and every closed policy that has them has the edges that are there now
abbrev pub invariant-loop-policy : goal.invariant-loop-policy
invariant-loop-policy l = record {
  has : IsWithin (allows l.initial.policy) (allows l.policy);
  least : (other : EdgeTest) → IsClosed other → IsWithin (allows l.initial.policy) other → IsWithin (allows l.policy) other;
}

abbrev pub decreases-loop-policy : goal.decreases-loop-policy
decreases-loop-policy l = absent_count l.policy
