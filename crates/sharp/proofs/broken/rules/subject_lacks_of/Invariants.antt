use Rattle.std.proofs.Common.{[], ◌∷◌}
use Rattle.{base.specs.Labels.is_in, policy.{specs.{Policy.allows, Sharp.Told}, proofs.{KindNumbers.all_kinds, Places.NoneSoFar}}}
use Rattle.sharp.{specs.Broken.{IsSharplyBrokenAt, s1, sharp_place}, proofs.PlaceSearch.of_kind}
use Rattle.sharp.proofs.broken.rules.subject_lacks_of.Given as goal

abbrev pub invariant-loop-kind : goal.invariant-loop-kind
invariant-loop-kind l =
    NoneSoFar sharp_place (IsSharplyBrokenAt (allows l.policy) (Told (is_in l.fn.keeping))) (s1 ∷ l.subject ∷ l.other ∷ []) all_kinds of_kind
    l.kind-index
