use Rattle.std.proofs.{Common.{None, Some, arith}, lemmas.Option.slice_get-get_or}
use Rattle.policy.{specs.Policy.allows, proofs.{Places.{least_here, none_at_all, none_more}, RulePlaces.{all_rules, of_all, of_rules}}}
use Rattle.policy.proofs.broken.first_broken.Goals as goal

pub returns-in-Some : goal.returns-in-Some
returns-in-Some g c =
    let test = allows c.args.policy.now in
    of_all test (Some c.in-Some.broken)
    (least_here (of_rules test) c.loop-rule.rule-index _ (slice_get-get_or all_rules c.loop-rule.rule-index _ (omega arith))
    c.loop-rule.invariant c.in-Some.broken c.in-Some.ensures)

pub loop-rule-preserved : goal.loop-rule-preserved
loop-rule-preserved g c =
    none_more (of_rules (allows c.args.policy.now)) c.loop-rule.rule-index _
    (slice_get-get_or all_rules c.loop-rule.rule-index _ (omega arith)) c.loop-rule.invariant c.in_default.ensures

pub returns : goal.returns
returns g c =
    let test = allows c.args.policy.now in
    of_all test None (none_at_all (of_rules test) c.loop-rule.rule-index (omega arith) c.loop-rule.invariant)
