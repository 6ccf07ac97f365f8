-- Well-formed machines: invariants of slots, of the parts of objects, of the links between objects, and of numbers and ranges, for all
-- nine kinds (seL4 manual, "Capability Spaces", "Capability Derivation Tree", "Untyped Memory" and "Scheduling Contexts").
use Rattle.std.specs.Prelude.{[], ℕ, ◌<◌, ◌≡◌, ◌≢◌, ◌≤◌, ◌⊎◌, AllPairs, Contains, List, Option, Some, length, option_map}
use Rattle.base.specs.declared.{ids.{ObjId.ObjId, SlotRef.SlotRef}, limits.TheConstants.ADDRESS_END}
use Rattle.machine.specs.declared.{cap.Cap.Cap, object.{Context.Context, Object.{Object, Object as o}, ObjectKind.ObjectKind}}
use Rattle.machine.specs.declared.object.ObjectKind.TheVariants as kind
use Rattle.machine.specs.declared.object.ReplyState.TheVariants as reply
use Rattle.machine.specs.{declared.{object.Untyped.Untyped, thread.{RunState.RunState, Tcb.Tcb}}, Capabilities.kind_of_detail}
use Rattle.machine.specs.declared.thread.RunState.TheVariants as state
use Rattle.machine.specs.{Machine.{Machine, cap_of, object_of, parent_of, queue_of, words_of}, Objects.{address_of, end_of, kind_of_object}}
use Rattle.machine.specs.Objects.{slot_count, word_count}

-- the kind of an object, if it is present
abbrev pub kind_of : Machine → ObjId → Option ObjectKind
kind_of m id = option_map kind_of_object (object_of m id)

-- one slot descends from another: from its parent, or from what its parent descends from
pub data Descends (m : Machine) : SlotRef → SlotRef → Type 0 where
  child : {slot parent : SlotRef} → parent_of m slot ≡ Some parent → Descends m slot parent
  further : {slot parent above : SlotRef} → parent_of m slot ≡ Some parent → Descends m parent above → Descends m slot above

-- an object lies in the range of untyped memory; a control takes no memory, so it lies in none
abbrev pub LiesIn : Untyped → Object → Type 0
LiesIn memory (o.Control _) = ⊥
LiesIn memory object = (memory.base ≤ address_of object) × (end_of object ≤ end_of (o.Untyped memory))

-- the slots of a machine and its derivation tree
pub record SlotsFit (m : Machine) : Type 0 where
  -- the holder of a filled slot is present and has the slot
  pub holder :
      (slot : SlotRef) (held : Cap) → cap_of m slot ≡ Some held
      → (object : Object) × (object_of m slot.holder ≡ Some object) × (slot.index < slot_count object)
  -- the object of a capability is present, and is of the kind that the capability says
  pub object :
      (slot : SlotRef) (held : Cap) → cap_of m slot ≡ Some held → kind_of m held.object ≡ Some (kind_of_detail held.detail)
  -- a root slot holds the capability of a CNode
  pub root :
      (slot : SlotRef) (held : Cap) → cap_of m slot ≡ Some held → kind_of m slot.holder ≡ Some kind.Tcb
      → kind_of_detail held.detail ≡ kind.CNode
  -- pairs of the tree join filled slots
  pub child_filled : (slot parent : SlotRef) → parent_of m slot ≡ Some parent → (held : Cap) × (cap_of m slot ≡ Some held)
  pub parent_filled : (slot parent : SlotRef) → parent_of m slot ≡ Some parent → (held : Cap) × (cap_of m parent ≡ Some held)
  -- no slot descends from itself
  pub acyclic : (slot : SlotRef) → ¬ (Descends m slot slot)
  -- a child is for its parent's object, or for one in the range of its parent's untyped memory
  pub kin :
      (slot parent : SlotRef) (below above : Cap) → parent_of m slot ≡ Some parent → cap_of m slot ≡ Some below
      → cap_of m parent ≡ Some above
      → (below.object ≡ above.object)
      ⊎ ((memory : Untyped) × (made : Object) × (object_of m above.object ≡ Some (o.Untyped memory))
      × (object_of m below.object ≡ Some made) × LiesIn memory made)

-- whether a run state waits in the queue of an object
abbrev pub WaitsAt : RunState → ObjId → Type 0
WaitsAt (state.Sending sending) id = sending.endpoint ≡ id
WaitsAt (state.Receiving receiving) id = receiving.endpoint ≡ id
WaitsAt (state.Waiting notification) id = notification ≡ id
WaitsAt _ id = ⊥

-- whether a thread is in the queue of a kind of object in the way that goes with the kind
abbrev pub WaitsAtKind : RunState → ObjectKind → Type 0
WaitsAtKind (state.Sending _) kind.Endpoint = Unit {0}
WaitsAtKind (state.Receiving _) kind.Endpoint = Unit {0}
WaitsAtKind (state.Waiting _) kind.Notification = Unit {0}
WaitsAtKind _ _ = ⊥

abbrev pub IsSending : RunState → Type 0
IsSending (state.Sending _) = Unit {0}
IsSending _ = ⊥

abbrev pub IsReceivingWith : RunState → ObjId → Type 0
IsReceivingWith (state.Receiving receiving) id = receiving.reply ≡ Some id
IsReceivingWith _ id = ⊥

abbrev pub IsCallingThrough : RunState → ObjId → Type 0
IsCallingThrough (state.Called calling) id = calling.reply ≡ id
IsCallingThrough _ id = ⊥

-- the number is that of this thread
abbrev pub IsThread : Machine → ObjId → Tcb → Type 0
IsThread m id thread = object_of m id ≡ Some (o.Tcb thread)

-- a caller, on any core: a thread that is ready
pub record IsCaller (m : Machine) (caller : ObjId) : Type 0 where
  pub thread : Tcb
  pub there : IsThread m caller thread
  pub ready : thread.state ≡ state.Ready

abbrev pub IsIdle : RunState → Type 0
IsIdle state.Inactive = Unit {0}
IsIdle state.Ready = Unit {0}
IsIdle _ = ⊥

abbrev pub IsFree : Machine → ObjId → Type 0
IsFree m id = (address : ℕ) × (object_of m id ≡ Some (o.Reply (record { address = address; state = reply.Free })))

-- the threads that wait at an object send exactly if the run state sends
abbrev pub IsAlike : Machine → ObjId → RunState → Type 0
IsAlike m id run =
    (threads : List ObjId) (other : ObjId) (tcb : Tcb) → queue_of m id ≡ Some threads → Contains threads other
    → IsThread m other tcb → (IsSending tcb.state → IsSending run) × (IsSending run → IsSending tcb.state)

-- each link is agreed at both ends: between queues and run states, replies and threads, contexts and threads
pub record LinksAgree (m : Machine) : Type 0 where
  -- a thread in a queue waits there, in the way that fits the object's kind
  pub queued :
      (id : ObjId) (threads : List ObjId) (thread : ObjId) → queue_of m id ≡ Some threads → Contains threads thread
      → (tcb : Tcb) × (at : ObjectKind) × IsThread m thread tcb × WaitsAt tcb.state id × (kind_of m id ≡ Some at)
      × WaitsAtKind tcb.state at
  -- a thread that waits is in the queue
  pub waiting :
      (thread id : ObjId) (tcb : Tcb) → IsThread m thread tcb → WaitsAt tcb.state id
      → (threads : List ObjId) × (queue_of m id ≡ Some threads) × Contains threads thread
  -- nobody is in a queue twice
  pub once : (id : ObjId) (threads : List ObjId) → queue_of m id ≡ Some threads → AllPairs (λ a b. a ≢ b) threads
  -- the queue of an endpoint has senders alone or receivers alone
  pub one_way :
      (id a b : ObjId) (threads : List ObjId) (first second : Tcb) → queue_of m id ≡ Some threads → Contains threads a
      → Contains threads b
      → IsThread m a first → IsThread m b second → IsSending first.state → kind_of m id ≡ Some kind.Endpoint
      → IsSending second.state
  -- the reply that a receiver named waits for it
  pub receiver_reply :
      (thread id : ObjId) (tcb : Tcb) → IsThread m thread tcb → IsReceivingWith tcb.state id
      → (address : ℕ) × (object_of m id ≡ Some (o.Reply (record { address = address; state = reply.Waiting thread })))
  -- the reply through which a thread waits for an answer has been called by it
  pub called_reply :
      (thread id : ObjId) (tcb : Tcb) → IsThread m thread tcb → IsCallingThrough tcb.state id
      → (address : ℕ) × (object_of m id ≡ Some (o.Reply (record { address = address; state = reply.Called thread })))
  pub waiting_reply :
      (id thread : ObjId) (address : ℕ)
      → object_of m id ≡ Some (o.Reply (record { address = address; state = reply.Waiting thread }))
      → (tcb : Tcb) × IsThread m thread tcb × IsReceivingWith tcb.state id
  pub reply_called :
      (id thread : ObjId) (address : ℕ)
      → object_of m id ≡ Some (o.Reply (record { address = address; state = reply.Called thread }))
      → (tcb : Tcb) × IsThread m thread tcb × IsCallingThrough tcb.state id
  -- a thread and its context
  pub thread_context :
      (thread id : ObjId) (tcb : Tcb) → IsThread m thread tcb → tcb.context ≡ Some id
      → (context : Context) × (object_of m id ≡ Some (o.Context context)) × (context.thread ≡ Some thread)
  pub context_thread :
      (id thread : ObjId) (context : Context) → object_of m id ≡ Some (o.Context context) → context.thread ≡ Some thread
      → (tcb : Tcb) × IsThread m thread tcb × (tcb.context ≡ Some id)

-- two objects' ranges meet
abbrev pub Meets : Object → Object → Type 0
Meets a b = (address_of a < end_of b) × (address_of b < end_of a)

-- each object that is there has a queue and its words, and nothing else has
pub record PartsFit (m : Machine) : Type 0 where
  pub queue :
      (id : ObjId) (object : Object) → object_of m id ≡ Some object → (threads : List ObjId) × (queue_of m id ≡ Some threads)
  pub words :
      (id : ObjId) (object : Object) → object_of m id ≡ Some object
      → (words : List ℕ) × (words_of m id ≡ Some words) × (length words ≡ word_count object)
  pub queue_of_object :
      (id : ObjId) (threads : List ObjId) → queue_of m id ≡ Some threads → (object : Object) × (object_of m id ≡ Some object)
  pub words_of_object :
      (id : ObjId) (words : List ℕ) → words_of m id ≡ Some words → (object : Object) × (object_of m id ≡ Some object)

-- untyped memory has 4 to 47 bits, and every range ends at or below 2^48
abbrev pub IsRanged : Object → Type 0
IsRanged (o.Untyped memory) = (4 ≤ memory.bits) × (memory.bits ≤ 47) × (end_of (o.Untyped memory) ≤ ADDRESS_END)
IsRanged object = end_of object ≤ ADDRESS_END

-- numbers of objects and their ranges of memory
pub record NumbersFit (m : Machine) : Type 0 where
  pub below_next : (id : ObjId) (object : Object) → object_of m id ≡ Some object → id.0 < m.next
  pub ranged : (id : ObjId) (object : Object) → object_of m id ≡ Some object → IsRanged object
  -- an untyped has at most one capability
  pub one_cap :
      (a b : SlotRef) (first second : Cap) → cap_of m a ≡ Some first → cap_of m b ≡ Some second → first.object ≡ second.object
      → kind_of_detail first.detail ≡ kind.Untyped → a ≡ b
  -- the watermark of untyped memory lies from its base to its end
  pub watermark :
      (id : ObjId) (memory : Untyped) → object_of m id ≡ Some (o.Untyped memory)
      → (memory.base ≤ memory.watermark) × (memory.watermark ≤ end_of (o.Untyped memory))
  -- objects whose ranges meet: the lower number is that of untyped memory that has a capability; the other is inside, below the mark
  pub inside :
      (low high : ObjId) (first second : Object) → low.0 < high.0 → object_of m low ≡ Some first → object_of m high ≡ Some second
      → Meets first second
      → (memory : Untyped) × (slot : SlotRef) × (held : Cap) × (first ≡ o.Untyped memory) × (cap_of m slot ≡ Some held)
      × (held.object ≡ low) × LiesIn memory second × (end_of second ≤ memory.watermark)
  -- an object inside it has capabilities, all of which descend from the untyped's
  pub made_from :
      (low high : ObjId) (first second : Object) (slot above : SlotRef) (held over : Cap) → low.0 < high.0
      → object_of m low ≡ Some first → object_of m high ≡ Some second → Meets first second
      → cap_of m slot ≡ Some held → held.object ≡ high → cap_of m above ≡ Some over → over.object ≡ low → Descends m slot above
  pub has_cap :
      (low high : ObjId) (first second : Object) → low.0 < high.0 → object_of m low ≡ Some first → object_of m high ≡ Some second
      → Meets first second
      → (slot : SlotRef) × (held : Cap) × (cap_of m slot ≡ Some held) × (held.object ≡ high)

pub record IsWellFormed (m : Machine) : Type 0 where
  pub slots : SlotsFit m
  pub parts : PartsFit m
  pub links : LinksAgree m
  pub numbers : NumbersFit m
  -- no removal is under way
  pub settled : m.going ≡ []
