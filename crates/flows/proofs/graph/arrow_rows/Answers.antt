-- Each turn adds one row more, that of the label with the next number.
use Rattle.std.proofs.{Common.{[], ℕ, ◌++◌, ◌+◌, ◌<◌, ◌∷◌, ◌≡◌, arith, subst, sym, true}, lemmas.{Bool.false≢true, Grind.common_steps}}
use Rattle.{base.specs.{declared.labels.Labels.Labels, Labels.is_in}, reach.specs.Extents.limits_of}
use Rattle.flows.{specs.Ways.FlowsDirectly, proofs.RowByRow.{AreRowsBelow, IsRowOf, all_rows, row_more}}
use Rattle.flows.proofs.graph.arrow_rows.Goals.{in-Some+in_ok-push, in_default}
use Rattle.flows.proofs.graph.arrow_rows.Goals as goal

pub loop-number-preserved : goal.loop-number-preserved
loop-number-preserved c =
    let Related = FlowsDirectly (limits_of c.args.reach.now) in
    let n = c.loop-number.number in
    elim c.match-new.branch [
      | in-Some+in_ok-push w ↦
          let grown : c.match-new.rows.items ≡ c.loop-number.rows.items ++ w.arrows.result ∷ [] = grind (arith, common_steps) in
          subst (λ rows. AreRowsBelow Related rows (n + 1)) (sym grown)
          (row_more Related c.loop-number.rows.items n w.arrows.result c.loop-number.invariant
          (subst (λ a. IsRowOf Related w.arrows.result a) w.in-Some.ensures.value w.arrows.ensures))
      | in_default w ↦ absurd (false≢true (w.in_default.ensures.valid.1 (omega arith)))
    ]

pub returns : goal.returns
returns c = record {
  few = subst (λ (labels : Labels). (l : ℕ) → is_in labels l ≡ true → l < 256) c.actors.ensures.actors c.labels_are_few.ensures;
  arrows = all_rows (FlowsDirectly (limits_of c.args.reach.now)) c.loop-number.rows.items c.loop-number.number (omega arith) c.loop-number.invariant;
}
