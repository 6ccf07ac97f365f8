-- All are raised once those from the present slot upwards are. What has been hung is below that slot.
use Rattle.std.{specs.Prelude.Some, proofs.Common.{◌≡◌, ◌⊎◌}}
use Rattle.base.specs.declared.ids.SlotRef.{SlotRef}
use Rattle.machine.specs.{Machine.{Machine, parent_of, same_slot}, Orphans.Nearest, WellFormed.Descends}
use Rattle.{objects.proofs.Ways.steps_up, derivation.specs.Raising.{AreRaisedFrom, is_empty}}
use Rattle.derivation.proofs.raising.hang_way.Given as goal

abbrev pub invariant-loop-heir : goal.invariant-loop-heir
invariant-loop-heir l = record {
  all :
      (last : Machine) → AreRaisedFrom l.state last (λ q. same_slot q l.at)
      → AreRaisedFrom l.fn.state last (λ q. same_slot q l.fn.slot);
  way : Nearest (parent_of l.state) (is_empty l.state) (Some l.at) l.heir;
  below : (q : SlotRef) → (parent_of l.state q ≡ parent_of l.fn.state q) ⊎ Descends l.fn.state q l.at;
}

abbrev pub decreases-loop-heir : goal.decreases-loop-heir
decreases-loop-heir l = steps_up l.fn.state l.at
