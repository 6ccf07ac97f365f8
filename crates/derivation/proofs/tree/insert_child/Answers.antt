use Rattle.{std.proofs.Common.inl, derivation.proofs.{Moves.slot_filled, Ranks.ranked_insert}}
use Rattle.derivation.proofs.tree.insert_child.Goals as goal

pub attach-requires-clause-below : goal.attach-requires-clause-below
attach-requires-clause-below c = slot_filled c.args.state.now c.args.slot c.caps_are_in_slots.ensures c.requires.below

pub attach-requires-clause-above : goal.attach-requires-clause-above
attach-requires-clause-above c = slot_filled c.args.state.now c.args.parent c.caps_are_in_slots.ensures c.requires.above

pub attach-requires-clause-low : goal.attach-requires-clause-low
attach-requires-clause-low c = inl c.requires.below

pub attach-requires-clause-high : goal.attach-requires-clause-high
attach-requires-clause-high c = inl c.requires.above

pub attach-requires-clause-ranked : goal.attach-requires-clause-ranked
attach-requires-clause-ranked c =
    ranked_insert c.args.state.now c.args.slot c.args.parent c.keeps_a_forest.ensures.ranked c.requires.alone c.requires.apart
