use Rattle.{std.proofs.{Common.{None, Some, arith}, lemmas.Option.slice_get-get_or}, base.specs.Labels.is_in}
use Rattle.policy.{specs.{Policy.allows, Sharp.Told}, proofs.Places.{least_here, none_at_all, none_more}}
use Rattle.sharp.proofs.RulePlaces.{all_rules, of_all, of_rules}
use Rattle.sharp.proofs.broken.first_broken.Goals as goal

pub returns-in-Some : goal.returns-in-Some
returns-in-Some c =
    let test = allows c.args.policy.now in
    let keeps = Told (is_in c.args.keeping) in
    of_all test keeps (Some c.in-Some.broken)
    (least_here (of_rules test keeps) c.loop-rule.rule-index _ (slice_get-get_or all_rules c.loop-rule.rule-index _ (omega arith))
    c.loop-rule.invariant c.in-Some.broken c.in-Some.ensures)

pub loop-rule-preserved : goal.loop-rule-preserved
loop-rule-preserved c =
    none_more (of_rules (allows c.args.policy.now) (Told (is_in c.args.keeping))) c.loop-rule.rule-index _
    (slice_get-get_or all_rules c.loop-rule.rule-index _ (omega arith)) c.loop-rule.invariant c.in_default.ensures

pub returns : goal.returns
returns c =
    let test = allows c.args.policy.now in
    let keeps = Told (is_in c.args.keeping) in
    of_all test keeps None (none_at_all (of_rules test keeps) c.loop-rule.rule-index (omega arith) c.loop-rule.invariant)
