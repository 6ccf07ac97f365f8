-- The object's slots of lower indices have been raised.
use Rattle.derivation.specs.{OwnSlots.is_slot_below, Raising.AreRaisedFrom}
use Rattle.derivation.proofs.raising.raise_slots_of.Given as goal

abbrev pub invariant-loop-index : goal.invariant-loop-index
invariant-loop-index l = AreRaisedFrom l.fn.state l.state (is_slot_below l.fn.id l.index)
