-- Each turn, the slot of the next index leaves, until all slots of the object have left.
use Rattle.std.proofs.Common.{◌+◌, ◌||◌, ◌∙◌, ◌≡◌, ap, arith, false, sym}
use Rattle.machine.specs.Machine.{same_slot}
use Rattle.derivation.{specs.OwnSlots.{is_slot_below, is_slot_of}, proofs.Leavings.{left_alike, left_more, none_left}}
use Rattle.derivation.proofs.OwnSlots.{none_below, one_below}
use Rattle.derivation.proofs.removing.remove_slots_of.Goals as goal

pub loop-index-init : goal.loop-index-init
loop-index-init c =
    left_alike c.args.state.now c.args.state.now (λ _. false) (is_slot_below c.args.id 0) (λ q. sym (none_below c.args.id q))
    (none_left c.args.state.now)

pub loop-index-preserved : goal.loop-index-preserved
loop-index-preserved c =
    left_alike c.args.state.now c.take_out.new.state
    (λ q. is_slot_below c.args.id c.loop-index.index q || same_slot q (record { holder = c.args.id; index = c.loop-index.index }))
    (is_slot_below c.args.id (c.loop-index.index + 1)) (one_below c.args.id c.loop-index.index)
    (left_more c.args.state.now c.loop-index.state c.take_out.new.state (is_slot_below c.args.id c.loop-index.index)
    (λ q. same_slot q (record { holder = c.args.id; index = c.loop-index.index })) c.loop-index.invariant c.take_out.ensures)

pub returns : goal.returns
returns c =
    let all : c.loop-index.index ≡ c.slot_count-index-end.result = omega arith in
    left_alike c.args.state.now c.loop-index.state (is_slot_below c.args.id c.loop-index.index)
    (is_slot_of c.args.state.now c.args.id)
    (λ q. ap (λ count. is_slot_below c.args.id count q) all ∙ sym (c.slot_count-index-end.ensures q)) c.loop-index.invariant
