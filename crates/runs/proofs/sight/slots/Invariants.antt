use Rattle.std.proofs.Common.{ℕ, ◌<◌, ◌≡◌, Some, length, slice_get}
use Rattle.machine.specs.Machine.{cap_of}
use Rattle.runs.proofs.sight.slots.Given as goal

abbrev pub invariant-loop-index : goal.invariant-loop-index
invariant-loop-index l = record {
  counted : length l.slots.items ≡ l.index;
  held :
      (k : ℕ) → k < l.index
      → slice_get l.slots.items k ≡ Some (cap_of l.state (record { holder = l.id; index = k }));
}
