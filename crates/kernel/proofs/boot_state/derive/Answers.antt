-- The slots of the next pair are filled, its child is in no pair so far, and one more has its parent.
use Rattle.std.proofs.Common.{inl}
use Rattle.kernel.proofs.{BootLemmas.boot-derived, BootPairs.{filled_slot, next_above, next_below, next_ranked, next_root}}
use Rattle.kernel.proofs.boot_state.derive.Goals as goal

pub attach-requires-clause-below : goal.attach-requires-clause-below
attach-requires-clause-below c =
    let pairs = c.pairs-pairs.ensures in
    filled_slot c.loop-pair.state c.caps_are_in_slots.ensures _
    (rw pairs.pairs
    (next_below c.args.table.now c.loop-pair.state c.loop-pair.pair-index _ c.loop-pair.invariant
    (pairs.lawful.tree c.loop-pair.pair-index _ (rw (← pairs.pairs) c.loop-pair-test.true))))

pub attach-requires-clause-above : goal.attach-requires-clause-above
attach-requires-clause-above c =
    let pairs = c.pairs-pairs.ensures in
    filled_slot c.loop-pair.state c.caps_are_in_slots.ensures _
    (rw pairs.pairs
    (next_above c.args.table.now c.loop-pair.state c.loop-pair.pair-index _ c.loop-pair.invariant
    (pairs.lawful.tree c.loop-pair.pair-index _ (rw (← pairs.pairs) c.loop-pair-test.true))))

pub attach-requires-clause-low : goal.attach-requires-clause-low
attach-requires-clause-low c =
    let pairs = c.pairs-pairs.ensures in
    inl
    (rw pairs.pairs
    (next_below c.args.table.now c.loop-pair.state c.loop-pair.pair-index _ c.loop-pair.invariant
    (pairs.lawful.tree c.loop-pair.pair-index _ (rw (← pairs.pairs) c.loop-pair-test.true))))

pub attach-requires-clause-high : goal.attach-requires-clause-high
attach-requires-clause-high c =
    let pairs = c.pairs-pairs.ensures in
    inl
    (rw pairs.pairs
    (next_above c.args.table.now c.loop-pair.state c.loop-pair.pair-index _ c.loop-pair.invariant
    (pairs.lawful.tree c.loop-pair.pair-index _ (rw (← pairs.pairs) c.loop-pair-test.true))))

pub attach-requires-clause-root : goal.attach-requires-clause-root
attach-requires-clause-root c =
    let pairs = c.pairs-pairs.ensures in
    rw pairs.pairs
    (next_root c.args.table.now c.loop-pair.state c.loop-pair.pair-index _ pairs.lawful.draft.pairs.rise
    (rw (← pairs.pairs) c.loop-pair-test.true) c.loop-pair.invariant)

pub attach-requires-clause-ranked : goal.attach-requires-clause-ranked
attach-requires-clause-ranked c =
    let pairs = c.pairs-pairs.ensures in
    rw pairs.pairs
    (c.boot_states_are_well_formed.ensures.ranked c.args.table.now _ pairs.lawful
    (next_ranked c.args.table.now c.loop-pair.state c.loop-pair.pair-index _ pairs.lawful.draft.pairs.rise
    (rw (← pairs.pairs) c.loop-pair-test.true) c.loop-pair.invariant))

pub loop-pair-preserved : goal.loop-pair-preserved
loop-pair-preserved c =
    let pairs = c.pairs-pairs.ensures in
    rw (c.attach.ensures, pairs.pairs)
    (boot-derived c.args.table.now c.loop-pair.state c.loop-pair.pair-index _ pairs.lawful.draft.pairs.rise
    (rw (← pairs.pairs) c.loop-pair-test.true) c.loop-pair.invariant)
