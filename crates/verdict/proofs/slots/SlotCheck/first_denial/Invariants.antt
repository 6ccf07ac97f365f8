use Rattle.{policy.specs.{Places.FindsLeast, Policy.allows}, verdict.{specs.Verdict.place_of, proofs.LeastOfSlots.BrokenAmong}}
use Rattle.verdict.proofs.slots.SlotCheck.first_denial.Given as goal

abbrev pub invariant-loop-index : goal.invariant-loop-index
invariant-loop-index l = FindsLeast place_of (BrokenAmong l.self.table.now (allows l.self.policy.now) l.index) l.first
