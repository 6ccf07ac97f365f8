-- Threads that stand in no queue, and threads that stand in one (seL4 manual, "Notifications" and "Endpoints").
use Rattle.std.specs.Prelude.{◌≡◌, Contains, List, Some}
use Rattle.{base.specs.declared.ids.ObjId.ObjId, machine.specs.Machine.{Machine, queue_of}}

-- no object's queue has the thread
abbrev pub WaitsNowhere : Machine → ObjId → Type 0
WaitsNowhere m thread = (id : ObjId) (threads : List ObjId) → queue_of m id ≡ Some threads → ¬ (Contains threads thread)

-- the thread is in the queue of an object
abbrev pub WaitsThere : Machine → ObjId → ObjId → Type 0
WaitsThere m id thread = (threads : List ObjId) × (queue_of m id ≡ Some threads) × Contains threads thread
