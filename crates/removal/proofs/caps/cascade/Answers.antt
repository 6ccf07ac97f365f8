-- A turn looks through one more object, and no more are going than there are objects.
use Rattle.std.{specs.Prelude.slice_get, proofs.Common.{◌∙◌, ap, arith, sym}}
use Rattle.removal.proofs.{Cascading.{cascade_ended, cascade_more, none_past_all}, Dropped.listed_at}
use Rattle.removal.proofs.caps.cascade.Goals as goal

pub returns-in_default-clause-emptied : goal.returns-in_default-clause-emptied
returns-in_default-clause-emptied c =
    cascade_ended c.args.state.now c.loop-next.state c.loop-next.next c.loop-next.invariant (sym c.going.ensures ∙ c.in_default.is)

pub empty_slots_of-requires-clause-listed : goal.empty_slots_of-requires-clause-listed
empty_slots_of-requires-clause-listed c = listed_at _ c.loop-next.next c.in-Some.id (sym c.in-Some.ensures)

pub loop-next-preserved : goal.loop-next-preserved
loop-next-preserved c =
    rw c.empty_slots_of.ensures.value
    (cascade_more c.args.state.now c.loop-next.state c.loop-next.next c.in-Some.id c.loop-next.invariant (sym c.in-Some.ensures)
    (rw (sym c.empty_slots_of.ensures.value) c.empty_slots_of.ensures.hollow)
    (rw (sym c.empty_slots_of.ensures.value) c.empty_slots_of.ensures.going))

pub returns-clause-emptied : goal.returns-clause-emptied
returns-clause-emptied c =
    cascade_ended c.args.state.now c.loop-next.state c.loop-next.next c.loop-next.invariant
    (ap (slice_get c.loop-next.state.going) (omega (arith, c.loop-next-test.false, c.loop-next.auto.next-end, c.object_count-next-end.ensures.value))
    ∙ none_past_all c.args.state.now c.loop-next.state c.loop-next.next c.loop-next.invariant)
