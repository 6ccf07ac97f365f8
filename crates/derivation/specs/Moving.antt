-- A place in the derivation tree that is taken over in two steps: first what is above it, then what is below.
use Rattle.std.specs.{FinMap.{entries, from_entries}, Prelude.{◌≤◌, if◌then◌else◌, map}}
use Rattle.base.specs.declared.ids.SlotRef.{SlotRef}
use Rattle.machine.specs.{Machine.{Machine, parent_of, same_slot, without_parent}, Tree.{IsRanked, under}}

-- one slot has no parent, and another has the one that it had
unfoldable pub lifted : Machine → SlotRef → SlotRef → Machine
lifted m from to = under (without_parent m from) to (parent_of m from)

-- one slot stands for another
abbrev pub in_place : SlotRef → SlotRef → SlotRef → SlotRef
in_place from to slot = if same_slot slot from then to else slot

-- the children of one slot are those of another
unfoldable pub handed_over : Machine → SlotRef → SlotRef → Machine
handed_over m from to =
    record m { parents = from_entries (map (λ pair. (pair.0, in_place from to pair.1)) (entries m.parents)) }

-- by some ranks one slot is no further down than another
abbrev pub StandsNoLower : Machine → SlotRef → SlotRef → Type 0
StandsNoLower m slot other = (ranked : IsRanked m) × (ranked.0 slot ≤ ranked.0 other)
