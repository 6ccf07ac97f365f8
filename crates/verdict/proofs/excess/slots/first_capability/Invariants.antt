use Rattle.std.proofs.Common.{[], ◌∷◌}
use Rattle.policy.{specs.Policy.allows, proofs.{Places.NoneSoFar, Sweep.numbers}}
use Rattle.verdict.specs.{Outside.LiesOutside, Rules.a1, Verdict.place_of}
use Rattle.verdict.proofs.excess.slots.first_capability.Given as goal

abbrev pub invariant-loop-index : goal.invariant-loop-index
invariant-loop-index l = NoneSoFar place_of (LiesOutside l.table (allows l.policy) l.state) (a1 ∷ l.holder.0 ∷ []) (numbers l.index-end) (λ k. k ∷ []) l.index
