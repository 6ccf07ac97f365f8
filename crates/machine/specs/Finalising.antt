-- Objects that stay as others vanish: threads that wait for one are aborted or halted, and links to it are cut (seL4 manual, "Endpoints",
-- "Notifications", "Scheduling Contexts"; that a thread reached in both ways is halted is confine's own). All is read off the machine
-- as it was, so the order doesn't matter.
use Rattle.std.specs.Prelude.{◌||◌, ◌≡◌, Bool, List, None, Option, Some, false, filter, if◌then◌else◌, not, true}
use Rattle.base.specs.declared.ids.ObjId.{ObjId}
use Rattle.machine.specs.declared.{object.{Object.{Object, Object as o}, ReplyState.ReplyState}, thread.{RunState.RunState, Tcb.Tcb}}
use Rattle.machine.specs.declared.object.ReplyState.TheVariants as reply
use Rattle.machine.specs.declared.thread.Inbox.TheVariants as inbox
use Rattle.machine.specs.declared.thread.RunState.TheVariants as state
use Rattle.machine.specs.Machine.{Machine, object_of}

-- whether a link leads to a vanished object
abbrev pub leads_nowhere : (ObjId → Bool) → Option ObjId → Bool
leads_nowhere vanished None = false
leads_nowhere vanished (Some id) = vanished id

-- a link, if it still leads to an object
abbrev pub link_after : (ObjId → Bool) → Option ObjId → Option ObjId
link_after vanished link = if leads_nowhere vanished link then None else link

-- whether the reply that a blocked thread named or called has vanished
abbrev pub is_halted : (ObjId → Bool) → RunState → Bool
is_halted vanished (state.Receiving receiving) = leads_nowhere vanished receiving.reply
is_halted vanished (state.Called calling) = vanished calling.reply
is_halted vanished _ = false

-- whether the object at which a thread waits has vanished
abbrev pub is_aborted : (ObjId → Bool) → RunState → Bool
is_aborted vanished (state.Sending sending) = vanished sending.endpoint
is_aborted vanished (state.Receiving receiving) = vanished receiving.endpoint
is_aborted vanished (state.Waiting notification) = vanished notification
is_aborted vanished _ = false

-- an aborted thread can run, and learns of it; a halted one can't, and keeps its inbox
abbrev pub aborted : Tcb → Tcb
aborted tcb = record tcb { state = state.Ready; inbox = inbox.Aborted }

abbrev pub halted : Tcb → Tcb
halted tcb = record tcb { state = state.Inactive }

-- a thread without a context that has vanished
abbrev pub unbound : (ObjId → Bool) → Tcb → Tcb
unbound vanished tcb = record tcb { context = link_after vanished tcb.context }

-- a thread that stays; one that is reached in both ways is halted
abbrev pub tcb_after : (ObjId → Bool) → Tcb → Tcb
tcb_after vanished tcb =
    unbound vanished
    (if is_halted vanished tcb.state then halted tcb else if is_aborted vanished tcb.state then aborted tcb else tcb)

-- whether an object is a thread that is halted or aborted
abbrev pub is_released : (ObjId → Bool) → Option Object → Bool
is_released vanished (Some (o.Tcb tcb)) = is_halted vanished tcb.state || is_aborted vanished tcb.state
is_released vanished _ = false

-- whether a thread leaves its queue and its reply: it vanishes, or is halted or aborted
abbrev pub leaves : Machine → (ObjId → Bool) → ObjId → Bool
leaves m vanished thread = vanished thread || is_released vanished (object_of m thread)

-- whether a reply waits with a thread, or has been called by it
abbrev pub IsHolding : ReplyState → ObjId → Type 0
IsHolding (reply.Waiting held) thread = held ≡ thread
IsHolding (reply.Called held) thread = held ≡ thread
IsHolding reply.Free thread = ⊥

abbrev pub reply_after : Machine → (ObjId → Bool) → ReplyState → ReplyState
reply_after m vanished (reply.Waiting thread) = if leaves m vanished thread then reply.Free else reply.Waiting thread
reply_after m vanished (reply.Called thread) = if leaves m vanished thread then reply.Free else reply.Called thread
reply_after m vanished reply.Free = reply.Free

-- whether an object of its kind may have links to others
abbrev pub has_links : Object → Bool
has_links (o.Tcb _) = true
has_links (o.Reply _) = true
has_links (o.Context _) = true
has_links _ = false

abbrev pub finalised : Machine → (ObjId → Bool) → Object → Object
finalised m vanished (o.Tcb tcb) = o.Tcb (tcb_after vanished tcb)
finalised m vanished (o.Reply holding) = o.Reply (record holding { state = reply_after m vanished holding.state })
finalised m vanished (o.Context context) = o.Context (record context { thread = link_after vanished context.thread })
finalised m vanished object = object

-- the threads of a queue that stay in it, in their order
abbrev pub staying_in : Machine → (ObjId → Bool) → List ObjId → List ObjId
staying_in m vanished threads = filter (λ thread. not (leaves m vanished thread)) threads
