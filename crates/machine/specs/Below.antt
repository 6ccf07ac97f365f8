-- The test of which slots descend from a slot (seL4 manual, "Capability Derivation Tree").
use Rattle.std.specs.{FinMap.keys, List.list_any, Prelude.{◌&&◌, ◌||◌, Bool, List, None, Option, Some, false, is_some, not}}
use Rattle.{base.specs.declared.ids.SlotRef.SlotRef, machine.specs.{Machine.{Machine, parent_of, same_slot}, Rounds.staying}}

-- a slot has a parent and isn't among those that don't descend
abbrev pub is_child_beside : Machine → List SlotRef → SlotRef → Bool
is_child_beside m others slot = is_some (parent_of m slot) && not (list_any (same_slot slot) others)

-- whether the parent of a slot is this one, or descends from it
abbrev pub has_parent_below : Machine → SlotRef → List SlotRef → SlotRef → Bool
has_parent_below m above others slot = by_parent (parent_of m slot) where
  by_parent : Option SlotRef → Bool
  by_parent None = false
  by_parent (Some parent) = same_slot parent above || is_child_beside m others parent

unfoldable pub is_below : Machine → SlotRef → SlotRef → Bool
is_below m above = is_child_beside m (staying (has_parent_below m above) (keys m.parents))
