use Rattle.{std.proofs.Common.[], base.specs.Labels.is_in, policy.{specs.{Policy.allows, Sharp.Told}, proofs.Places.NoneSoFar}}
use Rattle.sharp.{specs.Broken.{IsSharplyBrokenAt, sharp_place}, proofs.RulePlaces.{all_rules, of_rule}}
use Rattle.sharp.proofs.broken.first_broken.Given as goal

abbrev pub invariant-loop-rule : goal.invariant-loop-rule
invariant-loop-rule l =
    NoneSoFar sharp_place (IsSharplyBrokenAt (allows l.policy) (Told (is_in l.keeping))) [] all_rules of_rule l.rule-index
