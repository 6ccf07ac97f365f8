-- Each turn adds one row more, that of the label with the next number.
use Rattle.std.proofs.{Common.{[], ◌++◌, ◌∷◌, ◌≡◌, Some, arith, length, slice_get, subst}, lemmas.{Bool.false≢true, Grind.common_steps}}
use Rattle.reach.specs.Extents.{limits_of}
use Rattle.claims.{specs.Rows.IsRow, proofs.{FirstBreach.row_more, rows.Rows.of.Goals.{in-Some+in_ok-push, in_default}}}
use Rattle.claims.proofs.rows.Rows.of.Goals as goal

pub loop-number-preserved : goal.loop-number-preserved
loop-number-preserved c =
    elim c.match-new.branch [
      | in-Some+in_ok-push w ↦
          let grown : c.match-new.rows.items ≡ c.loop-number.rows.items ++ w.of.result ∷ [] = grind (arith, common_steps) in
          let count : length c.loop-number.rows.items ≡ c.loop-number.number = grind (arith, common_steps) in (
            grind (arith, common_steps),
            λ a other at.
                row_more (limits_of c.args.reach.now) c.loop-number.rows.items w.of.result c.loop-number.number count
                (subst (λ n. IsRow (limits_of c.args.reach.now) n w.of.result) w.in-Some.ensures.value w.of.ensures)
                c.loop-number.invariant.1 a other (subst (λ xs. slice_get xs a ≡ Some other) grown at),
          )
      | in_default w ↦ absurd (false≢true (w.in_default.ensures.valid.1 (omega arith)))
    ]
