-- That the loop finds exactly the labels with the edge.
use mathlib.Core.Bool.{false≢true}
use Rattle.std.proofs.{Common.{ℕ, ◌+◌, ◌==◌, ◌||◌, ◌↔◌, ◌∙◌, ◌≡◌, ap, arith, refl, subst, sym, true}, lemmas.Bool.{eq-eqb, eqb-true}}
use Rattle.{base.specs.Labels.is_in, policy.{specs.Policy.allows, proofs.Stepping.{IsBelow, more_below, none_more}}}
use Rattle.summary.proofs.sources.sources_of.Goals.{in-Some+else-has, in-Some+then-has, in_default}
use Rattle.summary.proofs.sources.sources_of.Goals as goal

pub loop-number-preserved : goal.loop-number-preserved
loop-number-preserved c label =
    let test = allows c.args.policy.now in
    let n = c.loop-number.number in
    let P : ℕ → Type 0 = λ k. (label ≡ k) × (test k c.args.kind c.args.to ≡ true) in
    elim c.match-new.branch [
      | in-Some+then-has w ↦
          let is = w.in-Some.ensures.value in
          let here = ap (λ k. test k c.args.kind c.args.to) (sym is) ∙ sym w.has.ensures ∙ w.if-has.true in
          subst (λ b. (b ≡ true) ↔ IsBelow P (n + 1))
          (sym (ap (λ found. is_in found label) w.found-is ∙ w.union-found.ensures label
          ∙ ap (λ b. is_in c.loop-number.found label || b) (w.only.ensures label ∙ ap (λ other. label == other) is)))
          (more_below n (is_in c.loop-number.found label) (label == n) (c.loop-number.invariant label) (λ same. (eqb-true label n same, here))
          (λ p. eq-eqb label n p.0))
      | in-Some+else-has w ↦
          let is = w.in-Some.ensures.value in
          let absent = ap (λ k. test k c.args.kind c.args.to) (sym is) ∙ sym w.has.ensures ∙ w.if-has.false in
          subst (λ b. (b ≡ true) ↔ IsBelow P (n + 1)) (sym (ap (λ found. is_in found label) w.found-is))
          (none_more n (is_in c.loop-number.found label) (c.loop-number.invariant label) (λ p. false≢true (sym absent ∙ p.1)))
      | in_default w ↦ absurd (false≢true (w.in_default.ensures.valid.1 (omega arith)))
    ]

pub returns : goal.returns
returns c label =
    let test = allows c.args.policy.now in
    let so_far = c.loop-number.invariant label in (
      λ is. let old = so_far.0 is in subst (λ k. test k c.args.kind c.args.to ≡ true) (sym old.2.0) old.2.1,
      λ edge.
          let ends = c.edges_rise.ensures.labels label c.args.kind c.args.to edge in
          so_far.1 (label, (omega (arith, ends.0)), (refl, edge)),
    )
