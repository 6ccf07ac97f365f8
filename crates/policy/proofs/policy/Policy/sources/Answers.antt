use Rattle.std.proofs.{Common.{ℕ, ◌+◌, ◌==◌, ◌||◌, ◌↔◌, ◌∙◌, ◌≡◌, ap, arith, refl, subst, sym, true}, lemmas.Bool.{eq-eqb, eqb-true}}
use Rattle.base.specs.Labels.{is_in}
use Rattle.policy.{specs.{Policy.allows, Steps.{IsSource, is_joined}}, proofs.Stepping.{IsBelow, joined_by, more_below, none_common}}
use Rattle.policy.proofs.{Stepping.{none_more, some_common, source_from, source_met}, policy.Policy.sources.Goals.in-Some+else-is_some}
use Rattle.policy.proofs.policy.Policy.sources.Goals.{in-Some+then-is_some, in_default}
use Rattle.policy.proofs.policy.Policy.sources.Goals as goal
use mathlib.Core.Bool.{false≢true}

pub loop-number-preserved : goal.loop-number-preserved
loop-number-preserved c from =
    let test = allows c.args.self.now in
    let tos = c.args.tos in
    let kinds = c.args.kinds.now in
    let n = c.loop-number.number in
    let P : ℕ → Type 0 = λ k. (from ≡ k) × IsSource test kinds tos k in
    elim c.match-new.branch [
      | in-Some+then-is_some w ↦
          let is = w.in-Some.ensures.value in
          let row = λ (to : ℕ). w.row_of_kinds.ensures to ∙ ap (λ label. is_joined test kinds label to) is in
          let met = some_common w.first.result w.intersection-met.result (sym w.is_some.ensures ∙ w.if-is_some.true) w.first.ensures.some in
          let here = source_from test kinds tos w.row_of_kinds.result w.intersection-met.result n row w.intersection-met.ensures met.0 met.1 in
          subst (λ b. (b ≡ true) ↔ IsBelow P (n + 1))
          (sym (ap (λ found. is_in found from) w.found-is ∙ w.union-found.ensures from
          ∙ ap (λ b. is_in c.loop-number.found from || b) (w.only.ensures from ∙ ap (λ label. from == label) is)))
          (more_below n (is_in c.loop-number.found from) (from == n) (c.loop-number.invariant from) (λ same. (eqb-true from n same, here)) (λ p. eq-eqb from n p.0))
      | in-Some+else-is_some w ↦
          let is = w.in-Some.ensures.value in
          let row = λ (to : ℕ). w.row_of_kinds.ensures to ∙ ap (λ label. is_joined test kinds label to) is in
          let none = none_common w.first.result w.intersection-met.result (sym w.is_some.ensures ∙ w.if-is_some.false) w.first.ensures.none in
          let met = source_met test kinds tos w.row_of_kinds.result w.intersection-met.result n row w.intersection-met.ensures in
          subst (λ b. (b ≡ true) ↔ IsBelow P (n + 1)) (sym (ap (λ found. is_in found from) w.found-is))
          (none_more n (is_in c.loop-number.found from) (c.loop-number.invariant from) (λ p. none (met p.1).0 (met p.1).1))
      | in_default w ↦ absurd (false≢true (w.in_default.ensures.valid.1 (omega arith)))
    ]

pub returns : goal.returns
returns c from =
    let kinds = c.args.kinds.now in
    let so_far = c.loop-number.invariant from in (
      λ is. let old = so_far.0 is in subst (IsSource (allows c.args.self.now) kinds c.args.tos) (sym old.2.0) old.2.1,
      λ source.
          let kind = joined_by (allows c.args.self.now) kinds from source.to source.joined in
          let ends = c.span-number-end.ensures.joins from kind.0 source.to kind.1 in
          so_far.1 (from, (omega (arith, ends.0)), (refl, source)),
    )
