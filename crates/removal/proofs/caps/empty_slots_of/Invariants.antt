-- The slots below the index have been emptied.
use Rattle.std.{specs.Prelude.Contains, proofs.Common.◌≡◌}
use Rattle.removal.specs.UnderWay.{AreGoing, emptied_below}
use Rattle.removal.proofs.caps.empty_slots_of.Given as goal

abbrev pub invariant-loop-index : goal.invariant-loop-index
invariant-loop-index l =
    record {
      emptied : l.state ≡ emptied_below l.fn.state l.id l.index;
      going : AreGoing l.state;
      listed : Contains l.state.going l.id;
    }
