use Rattle.std.proofs.Common.{ℕ, ◌∙◌, arith, below_more, subst, sym}
use Rattle.base.specs.declared.kind.Kind.{Kind}
use Rattle.policy.{specs.{Policy.{JoinsBelow, allows}, Settling.{Grows, IsSettled}}, proofs.ClosingGrowth.{grows_more, grows_no_more}}
use Rattle.policy.proofs.ClosingRules.{asked_starts, closed_if_settled}
use Rattle.policy.proofs.closing.settle_labels.Goals.{in-Some+in_ok-settle_label+else-branch, in-Some+in_ok-settle_label+then-branch}
use Rattle.policy.proofs.closing.settle_labels.Goals.{in_default}
use Rattle.policy.proofs.closing.settle_labels.Goals as goal
use mathlib.Core.Bool.{false≢true}

pub loop-number-preserved : goal.loop-number-preserved
loop-number-preserved c =
    let old = c.args.policy.now in
    let middle = c.loop-number.policy in
    let number = c.loop-number.number in
    let so_far = c.loop-number.invariant in
    elim c.match-new.branch [
      | in-Some+in_ok-settle_label+then-branch w ↦
          let new = w.settle_label.new.policy in
          let step = w.in_ok-settle_label.ensures in
          record {
            grows = rw (w.policy-is, w.changed-is)
                (grows_more old middle new c.loop-number.changed so_far.grows (subst (Grows middle new) w.if-branch.true step.grows));
            settled = λ is. absurd (false≢true (sym is ∙ w.changed-is));
          }
      | in-Some+in_ok-settle_label+else-branch w ↦
          let new = w.settle_label.new.policy in
          let step = w.in_ok-settle_label.ensures in
          let same = w.policy-is ∙ step.grows.same w.if-branch.false in
          record {
            grows = rw (w.policy-is, w.changed-is)
                (grows_no_more old middle new c.loop-number.changed so_far.grows (subst (Grows middle new) w.if-branch.false step.grows));
            settled = λ is.
                below_more (λ (from : ℕ). (kind : Kind) → IsSettled (allows c.match-new.policy) from kind) number
                (λ from below kind. subst (λ edges. IsSettled (allows edges) from kind) (sym same) (so_far.settled (sym w.changed-is ∙ is) from below kind))
                (λ kind. subst (λ edges. IsSettled (allows edges) number kind) (sym w.policy-is)
                (subst (λ from. IsSettled (allows new) from kind) w.in-Some.ensures.value (step.settled w.if-branch.false kind)));
          }
      | in_default w ↦ absurd (false≢true (w.in_default.ensures.valid.1 (omega arith)))
    ]

pub returns-clause-settled : goal.returns-clause-settled
returns-clause-settled c is =
    let test = allows c.loop-number.policy in
    let joins = subst (JoinsBelow c.span-number-end.result) (sym (c.loop-number.invariant.grows.same is)) c.span-number-end.ensures.joins in
    closed_if_settled test
    (λ from kind to asked. c.loop-number.invariant.settled is from (omega (arith, asked_starts test c.span-number-end.result joins from kind to asked)) kind to asked)
