-- The CNode where the lookup of a thread's addresses begins (seL4 manual, "Capability Address Lookup").
use Rattle.{std.specs.Prelude.{None, Option, Some}, base.specs.declared.ids.ObjId.ObjId}
use Rattle.machine.specs.{declared.object.Object.{Object, Object as o}, Lookup.{Level, level_at, root_of}, Machine.{Machine, object_of}}

-- the CNode at an object's root slot, if the object is a thread
abbrev pub level_of_root : Machine → ObjId → Option Object → Option Level
level_of_root m id (Some (o.Tcb thread)) = level_at m (root_of id)
level_of_root m id _ = None

abbrev pub root_level : Machine → ObjId → Option Level
root_level m id = level_of_root m id (object_of m id)
