-- All slots have left once those of the objects that remain have.
use Rattle.std.proofs.Common.{◌≡◌, drop}
use Rattle.{machine.specs.Machine.Machine, derivation.specs.{OwnSlots.{is_going_slot, is_slot_among}, Removing.HaveLeft}}
use Rattle.derivation.proofs.leaving.remove_going.Given as goal

abbrev pub invariant-loop-index : goal.invariant-loop-index
invariant-loop-index l = record {
  rest : l.state ≡ record l.fn.state { parents = l.state.parents };
  all :
      (last : Machine) → HaveLeft l.state last (is_slot_among l.fn.state (drop l.index l.fn.state.going))
      → HaveLeft l.fn.state last (is_going_slot l.fn.state);
}
