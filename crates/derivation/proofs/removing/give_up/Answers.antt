-- A slot's parent may have its children, since it is filled and stands above them.
use Rattle.std.proofs.Common.{subst, sym}
use Rattle.derivation.{specs.{Moving.handed_over, Removing.{HasParents, parent_past}}, proofs.Removals.{above_apart, above_no_lower}}
use Rattle.derivation.proofs.Removals.{handed_has}
use Rattle.derivation.proofs.removing.give_up.Goals as goal

pub hand_over-requires-clause-target : goal.hand_over-requires-clause-target
hand_over-requires-clause-target c =
    c.keeps_a_forest.ensures.above c.args.slot c.in-Some.parent (c.requires c.in-Some.parent c.in-Some.is)

pub hand_over-requires-clause-filled : goal.hand_over-requires-clause-filled
hand_over-requires-clause-filled c =
    c.keeps_a_forest.ensures.paired.above c.args.slot c.in-Some.parent (c.requires c.in-Some.parent c.in-Some.is)

pub hand_over-requires-clause-apart : goal.hand_over-requires-clause-apart
hand_over-requires-clause-apart c = λ child is.
    above_apart c.args.state.now c.keeps_a_forest.ensures.ranked c.args.slot c.in-Some.parent
    (c.requires c.in-Some.parent c.in-Some.is)

pub hand_over-requires-clause-place : goal.hand_over-requires-clause-place
hand_over-requires-clause-place c =
    above_no_lower c.args.state.now c.keeps_a_forest.ensures.ranked c.args.slot c.in-Some.parent
    (c.requires c.in-Some.parent c.in-Some.is)

pub returns-in-Some : goal.returns-in-Some
returns-in-Some c =
    subst (λ m. HasParents c.args.state.now m (parent_past c.args.state.now c.args.slot c.args.to)) (sym c.hand_over.ensures)
    (subst (λ to. HasParents c.args.state.now (handed_over c.args.state.now c.args.slot c.in-Some.parent)
    (parent_past c.args.state.now c.args.slot to)) (sym c.in-Some.is)
    (handed_has c.args.state.now c.args.slot c.in-Some.parent))
