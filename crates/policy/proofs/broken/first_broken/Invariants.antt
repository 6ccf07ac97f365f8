-- no rule so far is broken
use Rattle.std.proofs.Common.{[]}
use Rattle.policy.{specs.{Broken.{IsBrokenAt, broken_place}, Policy.allows}, proofs.{Places.NoneSoFar, RulePlaces.{all_rules, of_rule}}}
use Rattle.policy.proofs.broken.first_broken.Given as goal

abbrev pub invariant-loop-rule : goal.invariant-loop-rule
invariant-loop-rule g l = NoneSoFar broken_place (IsBrokenAt (allows l.policy)) [] all_rules of_rule l.rule-index
