use Rattle.std.proofs.Common.{ℕ, ◌+◌, ◌↔◌, ◌∙◌, ◌≡◌, ap, arith, subst, sym, true}
use Rattle.base.specs.{declared.kind.Kind.TheVariants.Reply, Labels.is_in}
use Rattle.policy.{specs.{Change.MayHoldCaller, Policy.allows}, proofs.Stepping.{IsBelow, more_below, none_more}}
use Rattle.flows.proofs.seeing.answered.Goals.{in-Some+else-has, in-Some+then-has, in_default}
use Rattle.flows.proofs.seeing.answered.Goals as goal
use mathlib.Core.Bool.{false≢true}

pub loop-number-preserved : goal.loop-number-preserved
loop-number-preserved c object =
    let test = allows c.args.policy.now in
    let acts = is_in c.args.actors in
    let replies = c.row-replies.result in
    let n = c.loop-number.number in
    let P : ℕ → Type 0 = λ reply. (is_in replies reply ≡ true) × MayHoldCaller test acts reply object in
    elim c.match-new.branch [
      | in-Some+then-has w ↦
          let is = w.in-Some.ensures.value in
          let here = ap (is_in replies) (sym is) ∙ sym w.has.ensures ∙ w.if-has.true in
          let held = w.callers.ensures object in
          subst (λ b. (b ≡ true) ↔ IsBelow P (n + 1)) (sym (ap (λ found. is_in found object) w.found-is ∙ w.union-found.ensures object))
          (more_below n (is_in c.loop-number.found object) (is_in w.callers.result object) (c.loop-number.invariant object)
          (λ has. (here, subst (λ reply. MayHoldCaller test acts reply object) is (held.0 has)))
          (λ holds. held.1 (subst (λ reply. MayHoldCaller test acts reply object) (sym is) holds.1)))
      | in-Some+else-has w ↦
          let is = w.in-Some.ensures.value in
          let absent = ap (is_in replies) (sym is) ∙ sym w.has.ensures ∙ w.if-has.false in
          subst (λ b. (b ≡ true) ↔ IsBelow P (n + 1)) (sym (ap (λ found. is_in found object) w.found-is))
          (none_more n (is_in c.loop-number.found object) (c.loop-number.invariant object) (λ holds. false≢true (sym absent ∙ holds.0)))
      | in_default w ↦ absurd (false≢true (w.in_default.ensures.valid.1 (omega arith)))
    ]

pub returns : goal.returns
returns c object =
    let row = c.row-replies.ensures in
    let so_far = c.loop-number.invariant object in (
      λ is. let old = so_far.0 is in record { reply = old.0; uses = sym (row old.0) ∙ old.2.0; called = old.2.1 },
      λ may.
          let ends = c.span-number-end.ensures.joins c.args.actor Reply may.reply may.uses in
          so_far.1 (may.reply, (omega (arith, ends.1)), (row may.reply ∙ may.uses, may.called)),
    )
