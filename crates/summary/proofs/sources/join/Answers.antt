-- That the loop finds exactly the labels in the rows of the set.
use mathlib.Core.Bool.{false≢true}
use Rattle.std.proofs.Common.{[], ℕ, ◌+◌, ◌↔◌, ◌∙◌, ◌≡◌, ap, arith, get_or, refl, subst, sym, true}
use Rattle.{base.specs.{declared.labels.Labels.Labels, Labels.is_in}, policy.proofs.Stepping.{IsBelow, more_below, none_more}}
use Rattle.summary.{specs.Sources.row_at, proofs.{Waiting.row_is, sources.join.Goals.{in-Some+else-has, in-Some+then-has, in_default}}}
use Rattle.summary.proofs.sources.join.Goals as goal

pub loop-number-preserved : goal.loop-number-preserved
loop-number-preserved c label =
    let rows = c.args.rows.now in
    let set = c.args.set in
    let n = c.loop-number.number in
    let P : ℕ → Type 0 = λ k. (is_in set k ≡ true) × (is_in (row_at rows k) label ≡ true) in
    elim c.match-new.branch [
      | in-Some+then-has w ↦
          let is = w.in-Some.ensures.value in
          let none : Labels = record { parts = [] } in
          let given = get_or rows n none in
          let row = row_is rows n n given none refl (omega arith) refl in
          let here = ap (is_in set) (sym is) ∙ sym w.has.ensures ∙ w.if-has.true in
          subst (λ b. (b ≡ true) ↔ IsBelow P (n + 1)) (sym (ap (λ found. is_in found label) w.found-is ∙ w.union-found.ensures label))
          (more_below n (is_in c.loop-number.found label) (is_in given label) (c.loop-number.invariant label)
          (λ has. (here, ap (λ r. is_in r label) (sym row) ∙ has)) (λ holds. ap (λ r. is_in r label) row ∙ holds.1))
      | in-Some+else-has w ↦
          let is = w.in-Some.ensures.value in
          let absent = ap (is_in set) (sym is) ∙ sym w.has.ensures ∙ w.if-has.false in
          subst (λ b. (b ≡ true) ↔ IsBelow P (n + 1)) (sym (ap (λ found. is_in found label) w.found-is))
          (none_more n (is_in c.loop-number.found label) (c.loop-number.invariant label) (λ holds. false≢true (sym absent ∙ holds.0)))
      | in_default w ↦ absurd (false≢true (w.in_default.ensures.valid.1 (omega arith)))
    ]

pub returns : goal.returns
returns c label =
    let so_far = c.loop-number.invariant label in (
      λ is. let old = so_far.0 is in record { at = old.0; among = old.2.0; there = omega (arith, old.1); has = old.2.1 },
      λ joint. so_far.1 (joint.at, (omega (arith, joint.there)), (joint.among, joint.has)),
    )
