use mathlib.Core.Bool.{false≢true}
use Rattle.std.proofs.Common.{ℕ, ◌∙◌, arith, below_more, subst, sym}
use Rattle.{base.specs.{declared.kind.Kind.Kind, Labels.is_in}, policy.specs.{Policy.{JoinsBelow, allows}, Sharp.Told}}
use Rattle.sharp.{specs.{Asked.IsSharplySettled, Least.GrowsSharply}, proofs.AskedRules.{closed_if_sharply_settled, sharply_asked_starts}}
use Rattle.sharp.proofs.SharpGrowth.{grows_by_none, grows_more, grows_no_more}
use Rattle.sharp.proofs.closing.settle_labels.Goals.{in-Some+in_ok-settle_label+else-branch}
use Rattle.sharp.proofs.closing.settle_labels.Goals.{in-Some+in_ok-settle_label+then-branch, in_default}
use Rattle.sharp.proofs.closing.settle_labels.Goals as goal

pub loop-number-init : goal.loop-number-init
loop-number-init c = record {
  grows = grows_by_none c.args.keeping c.args.policy.now;
  settled = λ is from below. absurd (omega (arith, below));
}

pub loop-number-preserved : goal.loop-number-preserved
loop-number-preserved c =
    let keeping = c.args.keeping in
    let old = c.args.policy.now in
    let middle = c.loop-number.policy in
    let number = c.loop-number.number in
    let so_far = c.loop-number.invariant in
    elim c.match-new.branch [
      | in-Some+in_ok-settle_label+then-branch w ↦
          let new = w.settle_label.new.policy in
          let step = w.in_ok-settle_label.ensures in
          record {
            grows = rw (w.policy-is, w.changed-is)
                (grows_more keeping old middle new c.loop-number.changed so_far.grows (subst (GrowsSharply keeping middle new) w.if-branch.true step.grows));
            settled = λ is. absurd (false≢true (sym is ∙ w.changed-is));
          }
      | in-Some+in_ok-settle_label+else-branch w ↦
          let new = w.settle_label.new.policy in
          let step = w.in_ok-settle_label.ensures in
          let same = w.policy-is ∙ step.grows.grows.same w.if-branch.false in
          record {
            grows = rw (w.policy-is, w.changed-is)
                (grows_no_more keeping old middle new c.loop-number.changed so_far.grows (subst (GrowsSharply keeping middle new) w.if-branch.false step.grows));
            settled = λ is.
                below_more (λ (from : ℕ). (kind : Kind) → IsSharplySettled (allows c.match-new.policy) (Told (is_in keeping)) from kind) number
                (λ from below kind. subst (λ edges. IsSharplySettled (allows edges) (Told (is_in keeping)) from kind) (sym same)
                (so_far.settled (sym w.changed-is ∙ is) from below kind))
                (λ kind. subst (λ edges. IsSharplySettled (allows edges) (Told (is_in keeping)) number kind) (sym w.policy-is)
                (subst (λ from. IsSharplySettled (allows new) (Told (is_in keeping)) from kind) w.in-Some.ensures.value (step.settled w.if-branch.false kind)));
          }
      | in_default w ↦ absurd (false≢true (w.in_default.ensures.valid.1 (omega arith)))
    ]

pub returns-clause-settled : goal.returns-clause-settled
returns-clause-settled c is =
    let test = allows c.loop-number.policy in
    let keeps = Told (is_in c.args.keeping) in
    let joins = subst (JoinsBelow c.span-number-end.result) (sym (c.loop-number.invariant.grows.grows.same is)) c.span-number-end.ensures.joins in
    closed_if_sharply_settled test keeps
    (λ from kind to asked. c.loop-number.invariant.settled is from
    (omega (arith, sharply_asked_starts test keeps c.span-number-end.result joins from kind to asked)) kind to asked)
