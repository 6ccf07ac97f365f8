-- The labels that are found are those whose row, of the rows so far, has a label of the set.
use Rattle.std.proofs.Common.{ℕ, ◌↔◌, ◌≡◌, true}
use Rattle.{base.specs.Labels.is_in, policy.proofs.Stepping.IsBelow, flows.specs.Rows.MeetsSet}
use Rattle.flows.proofs.meeting.meeting.Given as goal

abbrev pub invariant-loop-number : goal.invariant-loop-number
invariant-loop-number l = (y : ℕ) → (is_in l.found y ≡ true) ↔ IsBelow (λ k. (y ≡ k) × MeetsSet l.rows l.set k) l.number
