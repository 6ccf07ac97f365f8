use Rattle.{base.specs.Labels.is_in, policy.specs.{Policy.allows, Sharp.Told}}
use Rattle.sharp.{specs.Broken.{IsSharplyBrokenAt, sharp_place}, proofs.{PlaceSearch.NoneBelow, RulePlaces.of_rule}}
use Rattle.sharp.proofs.broken.Rule.first_broken.Given as goal

abbrev pub invariant-loop-number : goal.invariant-loop-number
invariant-loop-number l =
    NoneBelow sharp_place (IsSharplyBrokenAt (allows l.policy) (Told (is_in l.keeping))) (of_rule l.self) l.number
