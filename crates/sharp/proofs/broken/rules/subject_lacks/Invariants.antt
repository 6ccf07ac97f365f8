use Rattle.std.proofs.Common.{[], ◌∷◌}
use Rattle.{base.specs.Labels.is_in, policy.specs.{Policy.allows, Sharp.Told}}
use Rattle.sharp.{specs.Broken.{IsSharplyBrokenAt, s1, sharp_place}, proofs.PlaceSearch.NoneBelow}
use Rattle.sharp.proofs.broken.rules.subject_lacks.Given as goal

abbrev pub invariant-loop-number : goal.invariant-loop-number
invariant-loop-number l =
    NoneBelow sharp_place (IsSharplyBrokenAt (allows l.policy) (Told (is_in l.keeping))) (s1 ∷ l.subject ∷ []) l.number
