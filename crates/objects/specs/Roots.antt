-- The capability in the root slot of a thread (seL4 manual, "Capability Address Lookup").
use Rattle.{std.specs.Prelude.{None, Option, Some, option_and_then, option_map, slice_get}, base.specs.declared.ids.ObjId.ObjId}
use Rattle.machine.specs.{declared.{cap.Cap.Cap, object.Object.{Object, Object as o}}, Lookup.root_of, Machine.{Machine, cap_of, object_of}}
use Rattle.objects.specs.{declared.entry.Entry.Entry, Family.cap_in}

-- what an object's first slot holds, if the object is a thread
abbrev pub held_by_thread : Option Object → Option Cap → Option Cap
held_by_thread (Some (o.Tcb thread)) held = held
held_by_thread _ held = None

abbrev pub root_cap : Machine → ObjId → Option Cap
root_cap m id = held_by_thread (object_of m id) (cap_of m (root_of id))

-- the capability in the root slot, by the thread's entry
abbrev pub root_in : Option Entry → Option Cap
root_in entry =
    held_by_thread (option_map (λ e. e.object) entry) (cap_in (option_and_then (λ e. slice_get e.slots 0) entry))
