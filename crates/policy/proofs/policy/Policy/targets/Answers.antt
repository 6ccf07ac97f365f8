use Rattle.std.proofs.Common.{ℕ, ◌+◌, ◌↔◌, ◌∙◌, ◌≡◌, ap, arith, subst, sym, true}
use Rattle.base.specs.Labels.{is_in}
use Rattle.policy.{specs.{Policy.allows, Steps.is_joined}, proofs.Stepping.{IsBelow, joined_by, more_below, none_more}}
use Rattle.policy.proofs.policy.Policy.targets.Goals.{in-Some+else-has, in-Some+then-has, in_default}
use Rattle.policy.proofs.policy.Policy.targets.Goals as goal
use mathlib.Core.Bool.{false≢true}

pub loop-number-preserved : goal.loop-number-preserved
loop-number-preserved c to =
    let test = allows c.args.self.now in
    let froms = c.args.froms in
    let kinds = c.args.kinds.now in
    let n = c.loop-number.number in
    let P : ℕ → Type 0 = λ from. (is_in froms from ≡ true) × (is_joined test kinds from to ≡ true) in
    elim c.match-new.branch [
      | in-Some+then-has w ↦
          let is = w.in-Some.ensures.value in
          let here = ap (is_in froms) (sym is) ∙ sym w.has.ensures ∙ w.if-has.true in
          let row = w.row_of_kinds.ensures to ∙ ap (λ from. is_joined test kinds from to) is in
          subst (λ b. (b ≡ true) ↔ IsBelow P (n + 1)) (sym (ap (λ found. is_in found to) w.found-is ∙ w.union-found.ensures to))
          (more_below n (is_in c.loop-number.found to) (is_in w.row_of_kinds.result to) (c.loop-number.invariant to)
          (λ has. (here, sym row ∙ has)) (λ holds. row ∙ holds.1))
      | in-Some+else-has w ↦
          let is = w.in-Some.ensures.value in
          let absent = ap (is_in froms) (sym is) ∙ sym w.has.ensures ∙ w.if-has.false in
          subst (λ b. (b ≡ true) ↔ IsBelow P (n + 1)) (sym (ap (λ found. is_in found to) w.found-is))
          (none_more n (is_in c.loop-number.found to) (c.loop-number.invariant to) (λ holds. false≢true (sym absent ∙ holds.0)))
      | in_default w ↦ absurd (false≢true (w.in_default.ensures.valid.1 (omega arith)))
    ]

pub returns : goal.returns
returns c to =
    let kinds = c.args.kinds.now in
    let so_far = c.loop-number.invariant to in (
      λ is. let old = so_far.0 is in record { from = old.0; among = old.2.0; joined = old.2.1 },
      λ target.
          let kind = joined_by (allows c.args.self.now) kinds target.from to target.joined in
          let ends = c.span-number-end.ensures.joins target.from kind.0 to kind.1 in
          so_far.1 (target.from, (omega (arith, ends.0)), (target.among, target.joined)),
    )
