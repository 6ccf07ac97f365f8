-- Each turn adds one row more, that of the label with the next number.
use Rattle.std.proofs.{Common.{[], ◌++◌, ◌+◌, ◌∷◌, ◌≡◌, arith, subst, sym}, lemmas.{Bool.false≢true, Grind.common_steps}}
use Rattle.reach.specs.Extents.{limits_of}
use Rattle.flows.{specs.Flowing.DependsOn, proofs.RowByRow.{AreRowsBelow, IsRowOf, all_rows, row_more}}
use Rattle.flows.proofs.rows.needed_rows.Goals.{in-Some+in_ok-push, in_default}
use Rattle.flows.proofs.rows.needed_rows.Goals as goal

pub loop-number-preserved : goal.loop-number-preserved
loop-number-preserved c =
    let Related = DependsOn (limits_of c.args.reach.now) in
    let n = c.loop-number.number in
    elim c.match-new.branch [
      | in-Some+in_ok-push w ↦
          let grown : c.match-new.rows.items ≡ c.loop-number.rows.items ++ w.needed.result ∷ [] = grind (arith, common_steps) in
          subst (λ rows. AreRowsBelow Related rows (n + 1)) (sym grown)
          (row_more Related c.loop-number.rows.items n w.needed.result c.loop-number.invariant
          (subst (λ a. IsRowOf Related w.needed.result a) w.in-Some.ensures.value w.needed.ensures))
      | in_default w ↦ absurd (false≢true (w.in_default.ensures.valid.1 (omega arith)))
    ]

pub returns : goal.returns
returns c = all_rows (DependsOn (limits_of c.args.reach.now)) c.loop-number.rows.items c.loop-number.number (omega arith) c.loop-number.invariant
