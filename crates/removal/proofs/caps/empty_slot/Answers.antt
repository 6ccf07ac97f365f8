-- An object that has lost its last capability is going too, and there is room for it.
use Rattle.std.proofs.Common.{◌∙◌, sym}
use Rattle.{machine.specs.Machine.{object_of, without_cap}, removal.proofs.Going.{one_more_going, room_in, same_going}}
use Rattle.removal.proofs.caps.empty_slot.Goals as goal

pub take_cap-requires : goal.take_cap-requires
take_cap-requires c = c.requires.place

pub add_going-requires : goal.add_going-requires
unfolding without_cap object_of
add_going-requires c =
    rw c.take_cap.ensures
    (record {
      there = c.caps_are_for_objects.ensures _ _ (sym c.in-Some.ensures);
      lost = rw (sym c.take_cap.ensures) (sym c.cap_count.ensures.value ∙ c.if-cap_count-eq0.true);
      room = room_in c.args.state.now c.args.slot c.in-Some.cap c.requires.going (sym c.in-Some.ensures) (c.caps_are_for_objects.ensures _ _ (sym c.in-Some.ensures));
    })

pub returns-then-cap_count-eq0-clause-going : goal.returns-then-cap_count-eq0-clause-going
returns-then-cap_count-eq0-clause-going c =
    rw (c.add_going.ensures, c.take_cap.ensures)
    (one_more_going c.args.state.now c.args.slot c.in-Some.cap c.requires.going (sym c.in-Some.ensures) (c.caps_are_for_objects.ensures _ _ (sym c.in-Some.ensures)) (rw (sym c.take_cap.ensures) (sym c.cap_count.ensures.value ∙ c.if-cap_count-eq0.true)))

pub returns-else-cap_count-eq0-clause-going : goal.returns-else-cap_count-eq0-clause-going
returns-else-cap_count-eq0-clause-going c =
    rw c.take_cap.ensures
    (same_going c.args.state.now c.args.slot c.in-Some.cap c.requires.going (sym c.in-Some.ensures) (c.caps_are_for_objects.ensures _ _ (sym c.in-Some.ensures)))
