-- Changes by which an object that goes and is no reply loses its links, by its kind: who waits at an endpoint or a notification is
-- aborted, and contexts and threads are unbound (seL4 manual, "Deletion, Revocation, and Recycling").
use Rattle.{std.specs.{List.fold, Prelude.{[], List, None, Option, Some}}, base.specs.declared.ids.ObjId.ObjId}
use Rattle.machine.specs.{declared.object.Object.{Object, Object as o}, Machine.{Machine, object_of, queue_of}}
use Rattle.machine.specs.Releasing.{with_aborted, with_halted, with_unbound}

-- the threads of a queue, if there is one
abbrev pub members : Option (List ObjId) → List ObjId
members None = []
members (Some threads) = threads

-- each thread that waits at an object is aborted, the first first
unfoldable pub with_waiters_aborted : Machine → ObjId → Machine
with_waiters_aborted m id = fold with_aborted m (members (queue_of m id))

-- the thread of a context, if it has one, is unbound
abbrev pub with_link_cut : Machine → Option ObjId → Machine
with_link_cut m None = m
with_link_cut m (Some thread) = with_unbound m thread

-- an object that is no reply has lost its links
unfoldable pub with_links_cut : Machine → ObjId → Machine
with_links_cut m id = by_content (object_of m id) where
  by_content : Option Object → Machine
  by_content (Some (o.Tcb _)) = with_unbound (with_halted m id) id
  by_content (Some (o.Endpoint _)) = with_waiters_aborted m id
  by_content (Some (o.Notification _)) = with_waiters_aborted m id
  by_content (Some (o.Context context)) = with_link_cut m context.thread
  by_content _ = m
