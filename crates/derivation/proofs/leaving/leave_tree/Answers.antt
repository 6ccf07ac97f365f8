use Rattle.derivation.{specs.{OwnSlots.is_going_slot, Raising.IsOnWay}, proofs.GoingSlots.{empties_are_going, going_same, left_once_raised}}
use Rattle.derivation.proofs.Leavings.{left_alike}
use Rattle.derivation.proofs.leaving.leave_tree.Goals as goal

pub returns : goal.returns
returns c =
    left_once_raised c.args.state.now c.raise_going.new.state c.remove_going.new.state (is_going_slot c.args.state.now)
    (IsOnWay c.args.state.now (is_going_slot c.args.state.now))
    (empties_are_going c.args.state.now c.keeps_a_forest.ensures.paired c.keeps_a_forest.ensures.above c.requires)
    c.raise_going.ensures
    (left_alike c.raise_going.new.state c.remove_going.new.state (is_going_slot c.raise_going.new.state)
    (is_going_slot c.args.state.now) (going_same c.args.state.now c.raise_going.new.state c.raise_going.ensures.rest)
    c.remove_going.ensures)
