use Rattle.std.proofs.Common.{[], ◌∷◌}
use Rattle.{base.specs.Kinds.kind_number, policy.{specs.Policy.allows, proofs.{KindNumbers.all_kinds, Places.NoneSoFar}}}
use Rattle.verdict.specs.{Outside.LiesOutside, Rules.a1, Verdict.place_of}
use Rattle.verdict.proofs.excess.slots.first_kind.Given as goal

abbrev pub invariant-loop-kind : goal.invariant-loop-kind
invariant-loop-kind l = NoneSoFar place_of (LiesOutside l.table (allows l.policy) l.state) (a1 ∷ l.slot.holder.0 ∷ l.slot.index ∷ []) all_kinds (λ k. kind_number k ∷ []) l.kind-index
