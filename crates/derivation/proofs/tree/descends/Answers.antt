-- Each step up the tree leaves a shorter way, and a slot descends from its parent and from what stands above that.
use Rattle.std.proofs.Common.{◌∙◌, inl, inr, refl, subst, sym}
use Rattle.machine.{specs.WellFormed.{Descends, child, further}, proofs.Ids.slots_same}
use Rattle.{objects.proofs.Ways.way_shortens, derivation.proofs.Climbs.{descends_by, slots_differ}}
use Rattle.derivation.proofs.tree.descends.Goals as goal

pub returns-then-eq : goal.returns-then-eq
returns-then-eq c =
    let same = slots_same c.in-Some.parent c.args.above (sym c.eq.ensures ∙ c.if-eq.true) in (
      λ _. c.loop-parent.invariant.1
          (subst (λ s. Descends c.args.state.now c.loop-parent.at s) same (child (sym c.in-Some.ensures))),
      λ _. refl,
    )

pub loop-parent-smaller : goal.loop-parent-smaller
loop-parent-smaller c =
    way_shortens c.args.state.now c.keeps_a_forest.ensures.ranked c.loop-parent.at c.in-Some.parent (sym c.in-Some.ensures)

pub loop-parent-preserved : goal.loop-parent-preserved
loop-parent-preserved c = (
  λ below.
      elim (descends_by c.args.state.now (c.loop-parent.invariant.0 below) c.in-Some.parent (sym c.in-Some.ensures)) [
        | inl same ↦ absurd (slots_differ c.in-Some.parent c.args.above (sym c.eq.ensures ∙ c.if-eq.false) same)
        | inr rest ↦ rest
      ],
  λ below. c.loop-parent.invariant.1 (further (sym c.in-Some.ensures) below),
)
