-- Each turn raises the slot of the next index, until all slots of the object have had their turn.
use Rattle.std.proofs.{Common.{◌+◌, ◌||◌, ◌∙◌, ◌≡◌, ap, arith, sym}, lemmas.Bool.false≢true}
use Rattle.machine.specs.Machine.{same_slot}
use Rattle.derivation.{specs.OwnSlots.{is_slot_below, is_slot_of}, proofs.{Hangs.nothing_raised, OwnSlots.{none_below, one_below}}}
use Rattle.derivation.proofs.Raises.{raised_from_alike, raised_more}
use Rattle.derivation.proofs.raising.raise_slots_of.Goals as goal

pub loop-index-init : goal.loop-index-init
loop-index-init c =
    nothing_raised c.args.state.now (is_slot_below c.args.id 0)
    (λ q is empty. false≢true (sym (none_below c.args.id q) ∙ is))

pub loop-index-preserved : goal.loop-index-preserved
loop-index-preserved c =
    raised_from_alike c.args.state.now c.raise.new.state
    (λ q. is_slot_below c.args.id c.loop-index.index q || same_slot q (record { holder = c.args.id; index = c.loop-index.index }))
    (is_slot_below c.args.id (c.loop-index.index + 1)) (one_below c.args.id c.loop-index.index)
    (raised_more c.args.state.now c.loop-index.state (is_slot_below c.args.id c.loop-index.index)
    (λ q. same_slot q (record { holder = c.args.id; index = c.loop-index.index })) c.loop-index.invariant c.raise.new.state
    c.raise.ensures)

pub returns : goal.returns
returns c =
    let all : c.loop-index.index ≡ c.slot_count-index-end.result = omega arith in
    raised_from_alike c.args.state.now c.loop-index.state (is_slot_below c.args.id c.loop-index.index)
    (is_slot_of c.args.state.now c.args.id)
    (λ q. ap (λ count. is_slot_below c.args.id count q) all ∙ sym (c.slot_count-index-end.ensures q)) c.loop-index.invariant
