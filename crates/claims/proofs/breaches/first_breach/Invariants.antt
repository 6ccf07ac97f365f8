-- The labels so far have no more authority than the claim leaves them.
use Rattle.{machine.specs.Layout.Layout, table.specs.Names.AreLabelsOf, reach.specs.Extents.Limits}
use Rattle.claims.{specs.Rows.AreRowsByLabel, proofs.FirstBreach.HoldsBelow}
use Rattle.claims.proofs.breaches.first_breach.Given as goal

abbrev pub invariant-loop-number : goal.invariant-loop-number
invariant-loop-number l =
    (t : Layout) (limits : Limits) → AreLabelsOf t l.labels → AreRowsByLabel limits l.rows → HoldsBelow t limits l.claim l.number
