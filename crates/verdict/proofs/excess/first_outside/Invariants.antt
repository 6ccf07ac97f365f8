use Rattle.{policy.specs.{Places.FindsLeast, Policy.allows}, verdict.{specs.Verdict.place_of, proofs.OutsideObjects.LiesBelow}}
use Rattle.verdict.proofs.excess.first_outside.Given as goal

abbrev pub invariant-loop-number : goal.invariant-loop-number
invariant-loop-number l = FindsLeast place_of (LiesBelow l.table (allows l.policy) l.state l.number) l.first
