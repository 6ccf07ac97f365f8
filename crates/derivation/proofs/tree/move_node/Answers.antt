-- The two steps exchange the places of the two slots.
use Rattle.std.proofs.Common.{◌∙◌, ap, inl, sym}
use Rattle.machine.specs.Machine.{parent_of}
use Rattle.derivation.{specs.Moving.handed_over, proofs.Moves.{apart_lifted, place_lifted, slot_filled, slot_lifted, taken_over}}
use Rattle.derivation.proofs.tree.move_node.Goals as goal

pub lift-requires-clause-target : goal.lift-requires-clause-target
lift-requires-clause-target c = slot_filled c.args.state.now c.args.to c.caps_are_in_slots.ensures c.requires.target

pub lift-requires-clause-filled : goal.lift-requires-clause-filled
lift-requires-clause-filled c = inl c.requires.target

pub hand_over-requires-clause-filled : goal.hand_over-requires-clause-filled
hand_over-requires-clause-filled c =
    rw c.lift.ensures.value (place_lifted c.args.state.now c.args.from c.args.to c.args.to (inl c.requires.target))

pub hand_over-requires-clause-target : goal.hand_over-requires-clause-target
hand_over-requires-clause-target c =
    rw c.lift.ensures.value
    (slot_lifted c.args.state.now c.args.from c.args.to c.args.to (slot_filled c.args.state.now c.args.to c.caps_are_in_slots.ensures c.requires.target))

pub hand_over-requires-clause-apart : goal.hand_over-requires-clause-apart
hand_over-requires-clause-apart c = λ child is.
    apart_lifted c.args.state.now c.args.from c.args.to c.requires.alone child (ap (λ m. parent_of m child) (sym c.lift.ensures.value) ∙ is)

pub returns : goal.returns
returns c =
    c.hand_over.ensures
    ∙ ap (λ m. handed_over m c.args.from c.args.to) c.lift.ensures.value
    ∙ taken_over c.args.state.now c.args.from c.args.to c.requires.alone
