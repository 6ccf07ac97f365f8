-- The slots of one object, filled or not (seL4 manual, "Capability Spaces").
use Rattle.std.specs.{List.list_any, Prelude.{ℕ, ◌&&◌, Bool, List, nat_lt}}
use Rattle.{base.specs.declared.ids.{ObjId.ObjId, SlotRef.SlotRef}, machine.specs.Machine.{Machine, has_slot, same_id}}

abbrev pub is_slot_of : Machine → ObjId → SlotRef → Bool
is_slot_of m id slot = same_id slot.holder id && has_slot m slot

-- whether a slot is one of the object, with an index below a number
abbrev pub is_slot_below : ObjId → ℕ → SlotRef → Bool
is_slot_below id count slot = same_id slot.holder id && nat_lt slot.index count

abbrev pub is_slot_among : Machine → List ObjId → SlotRef → Bool
is_slot_among m ids slot = list_any (λ id. is_slot_of m id slot) ids

-- whether a slot is of an object that has lost its last capability, in a removal that is under way
abbrev pub is_going_slot : Machine → SlotRef → Bool
is_going_slot m = is_slot_among m m.going
