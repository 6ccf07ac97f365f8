-- The object's slots of lower indices have left.
use Rattle.derivation.specs.{OwnSlots.is_slot_below, Removing.HaveLeft}
use Rattle.derivation.proofs.removing.remove_slots_of.Given as goal

abbrev pub invariant-loop-index : goal.invariant-loop-index
invariant-loop-index l = HaveLeft l.fn.state l.state (is_slot_below l.fn.id l.index)
