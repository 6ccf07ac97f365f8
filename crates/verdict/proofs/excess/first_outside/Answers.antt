-- That the loop keeps the least denial with each object.
use Rattle.std.proofs.Common.{◌+◌, arith, subst, sym}
use Rattle.policy.specs.{Places.FindsLeast, Policy.allows}
use Rattle.verdict.{specs.Verdict.place_of, proofs.{LeastByRule.{least_kept, least_new}, OutsideObjects.{LiesBelow, least_of_all_objects, looks}}}
use Rattle.verdict.proofs.excess.first_outside.Goals.{else-rule_number, then-rule_number}
use Rattle.verdict.proofs.excess.first_outside.Goals as goal

pub loop-number-preserved : goal.loop-number-preserved
loop-number-preserved c =
    let t = c.args.table.now in
    let allowed = allows c.args.policy.now in
    let m = c.args.state.now in
    let n = c.loop-number.number in
    let next = c.first_at-next.result in
    let first = c.loop-number.first in
    elim c.if-rule_number.branch [
      | then-rule_number w ↦
          subst (FindsLeast place_of (LiesBelow t allowed m (n + 1))) (sym w.first-is)
          (least_new _ _ _ (looks t allowed m n) first next c.first_at-next.ensures c.loop-number.invariant (let lt = w.if-rule_number.true in omega (arith, lt)))
      | else-rule_number w ↦
          subst (FindsLeast place_of (LiesBelow t allowed m (n + 1))) (sym w.first-is)
          (least_kept _ _ _ (looks t allowed m n) first next c.first_at-next.ensures c.loop-number.invariant (let le = w.if-rule_number.false in omega (arith, le)))
    ]

pub returns : goal.returns
returns c =
    least_of_all_objects c.args.table.now (allows c.args.policy.now) c.args.state.now c.objects_are_numbered.ensures c.loop-number.number
    (let end = c.loop-number-test.false in omega (arith, end)) c.loop-number.first c.loop-number.invariant
