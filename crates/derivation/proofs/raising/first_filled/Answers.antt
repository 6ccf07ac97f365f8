-- The way up goes on from an empty slot to its parent, and ends at a filled one.
use Rattle.{std.{specs.Prelude.{None, Option, Some}, proofs.Common.{subst, sym}}, base.specs.declared.ids.SlotRef.SlotRef}
use Rattle.machine.specs.{Machine.parent_of, Orphans.{Nearest, climbs, no_ancestor, survives}}
use Rattle.{objects.proofs.Ways.way_shortens, derivation.{specs.Raising.is_empty, proofs.Hangs.seen_empty}}
use Rattle.derivation.proofs.raising.first_filled.Goals as goal

pub returns : goal.returns
returns c =
    c.loop-at.invariant (Some c.loop-at.at)
    (survives (seen_empty c.args.state.now c.loop-at.at c.cap.ensures c.is_none.ensures c.loop-at-test.false))

pub returns-in_err-at : goal.returns-in_err-at
returns-in_err-at c =
    subst (λ (end : Option SlotRef). Nearest (parent_of c.args.state.now) (is_empty c.args.state.now) (Some c.args.slot) end)
    (sym c.from_residual.ensures)
    (c.loop-at.invariant None
    (climbs (seen_empty c.args.state.now c.loop-at.at c.cap.ensures c.is_none.ensures c.loop-at-test.true)
    (subst (λ (from : Option SlotRef). Nearest (parent_of c.args.state.now) (is_empty c.args.state.now) from None)
    c.in_err-at.ensures no_ancestor)))

pub loop-at-smaller : goal.loop-at-smaller
loop-at-smaller c =
    way_shortens c.args.state.now c.keeps_a_forest.ensures.ranked c.loop-at.at c.in_ok-at.at (sym c.in_ok-at.ensures)

pub loop-at-preserved : goal.loop-at-preserved
loop-at-preserved c =
    λ end way.
    c.loop-at.invariant end
    (climbs (seen_empty c.args.state.now c.loop-at.at c.cap.ensures c.is_none.ensures c.loop-at-test.true)
    (subst (λ (from : Option SlotRef). Nearest (parent_of c.args.state.now) (is_empty c.args.state.now) from end)
    c.in_ok-at.ensures way))
