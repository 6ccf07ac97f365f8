use Rattle.std.proofs.Common.{[], ◌∷◌}
use Rattle.{base.specs.Kinds.kind_number, policy.{specs.Policy.allows, proofs.{KindNumbers.all_kinds, Places.NoneSoFar}}}
use Rattle.verdict.specs.{Outside.LiesOutside, Rules.a6, Verdict.place_of}
use Rattle.verdict.proofs.excess.links.first_record.Given as goal

abbrev pub invariant-loop-kind : goal.invariant-loop-kind
invariant-loop-kind l = NoneSoFar place_of (LiesOutside l.table (allows l.policy) l.state) (a6 ∷ l.thread.0 ∷ []) all_kinds (λ k. kind_number k ∷ []) l.kind-index
