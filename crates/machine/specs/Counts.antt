-- Counts of a machine at one time: its objects, slots and threads, and the capabilities for one object (confine's own).
use Rattle.{std.specs.{FinMap.entries, Prelude.{ℕ, List, count_by, length, map, sum}}, base.specs.declared.ids.ObjId.ObjId}
use Rattle.machine.specs.{declared.object.Object.Object, Gone.is_for, Machine.Machine, Objects.{slot_count, thread_count}}

-- the objects that are there, by number
abbrev pub present : Machine → List Object
present m = map (λ entry. entry.1) (entries m.objects)

unfoldable pub objects_in : Machine → ℕ
objects_in m = length (present m)

unfoldable pub slots_in : Machine → ℕ
slots_in m = sum (map slot_count (present m))

unfoldable pub threads_in : Machine → ℕ
threads_in m = sum (map thread_count (present m))

-- how many filled slots hold a capability for an object
unfoldable pub caps_to : Machine → ObjId → ℕ
caps_to m id = count_by (λ filled. is_for id filled.0 filled.1) (entries m.caps)
