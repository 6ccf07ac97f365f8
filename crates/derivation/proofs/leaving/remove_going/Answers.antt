-- Each turn, the slots of one object leave, in the order of the list.
use Rattle.std.{specs.Prelude.{None, Some, slice_get}, proofs.Common.{◌∙◌, ◌≡◌, ◌≤◌, ap, arith, length, sym}}
use Rattle.derivation.proofs.GoingSlots.{left_all, left_on, listed_same, none_found, rest_again}
use Rattle.derivation.proofs.leaving.remove_going.Goals as goal

pub returns-in_default : goal.returns-in_default
returns-in_default c =
    let none_there : slice_get c.args.state.now.going c.loop-index.index ≡ None =
    ap (λ ids. slice_get ids c.loop-index.index) (sym (listed_same c.args.state.now c.loop-index.state c.loop-index.invariant.rest))
    ∙ sym c.in_default.ensures in
    c.loop-index.invariant.all c.loop-index.state
    (left_all c.args.state.now c.loop-index.state c.args.state.now.going c.loop-index.index
    (none_found c.args.state.now.going c.loop-index.index none_there))

pub loop-index-preserved : goal.loop-index-preserved
loop-index-preserved c =
    let there : slice_get c.args.state.now.going c.loop-index.index ≡ Some c.in-Some.id =
    ap (λ ids. slice_get ids c.loop-index.index) (sym (listed_same c.args.state.now c.loop-index.state c.loop-index.invariant.rest))
    ∙ sym c.in-Some.ensures in
    record {
      rest =
          rest_again c.args.state.now c.loop-index.state c.remove_slots_of.new.state c.loop-index.invariant.rest
          c.remove_slots_of.ensures.rest;
      all =
          λ last again.
          c.loop-index.invariant.all last
          (left_on c.args.state.now c.loop-index.state c.args.state.now.going c.loop-index.index c.in-Some.id
          c.loop-index.invariant.rest there c.remove_slots_of.new.state last c.remove_slots_of.ensures again);
    }

pub returns : goal.returns
returns c =
    let past : length c.args.state.now.going ≤ c.loop-index.index = omega arith in
    c.loop-index.invariant.all c.loop-index.state
    (left_all c.args.state.now c.loop-index.state c.args.state.now.going c.loop-index.index past)
