-- The boot state of a capability table (compare the seL4 manual, "Bootstrapping"; the rule is confine's own).
use Rattle.std.specs.Prelude.{[], ◌≡◌, ◌⊎◌, List, None, Option, Some, length, option_map, replicate, true}
use Rattle.base.specs.declared.ids.{ObjId.ObjId, SlotRef.SlotRef}
use Rattle.machine.specs.declared.{cap.Cap.Cap, layout.Initial.Initial, object.{Frame.Frame, Notification.Notification, Object.Object}}
use Rattle.machine.specs.declared.{object.{Object.Object as o, Reply.Reply, Untyped.Untyped}, thread.{RunState.RunState as run, Tcb.Tcb}}
use Rattle.machine.specs.declared.object.ReplyState.TheVariants as reply
use Rattle.machine.specs.declared.thread.Inbox.TheVariants as inbox
use Rattle.machine.specs.{Layout.{Layout, bound_context, bound_thread, initial_cap, initial_of, initial_parent}, Machine.{Machine, cap_of}}
use Rattle.machine.specs.{Machine.{object_of, parent_of, queue_of, words_of}, Objects.word_count}

-- an object with the links that the table's bindings give it
abbrev pub bound : Layout → ObjId → Object → Object
bound t id (o.Tcb thread) = o.Tcb (record thread { context = bound_context t id })
bound t id (o.Context context) = o.Context (record context { thread = bound_thread t id })
bound t id object = object

-- an initial object as it is at boot
abbrev pub booted : Layout → ObjId → Option Object
booted t id = option_map (λ initial. bound t id initial.object) (initial_of t id)

-- the machine is the boot state of the table: its objects are those declared, bound as the table says; nobody waits, and the
-- words of frames are zero; the capabilities and the derivation tree are the table's; the next object follows the last, and nothing is going
pub record IsBoot (t : Layout) (m : Machine) : Type 0 where
  pub objects : (id : ObjId) → object_of m id ≡ booted t id
  pub queues : (id : ObjId) → queue_of m id ≡ option_map (λ object. []) (booted t id)
  pub words : (id : ObjId) → words_of m id ≡ option_map (λ object. replicate (word_count object) 0) (booted t id)
  pub caps : (slot : SlotRef) → cap_of m slot ≡ initial_cap t slot
  pub parents : (slot : SlotRef) → parent_of m slot ≡ initial_parent t slot
  pub next : m.next ≡ length t.objects
  pub going : m.going ≡ []

-- what the boot rule says of the machine that a table boots to
pub record IsFresh (t : Layout) (m : Machine) : Type 0 where
  -- the watermark of untyped memory is at its base
  pub watermarks : (id : ObjId) (memory : Untyped) → object_of m id ≡ Some (o.Untyped memory) → memory.watermark ≡ memory.base
  pub has_queue :
      (id : ObjId) (object : Object) → object_of m id ≡ Some object → (threads : List ObjId) × (queue_of m id ≡ Some threads)
  pub empty_queues : (id : ObjId) (threads : List ObjId) → queue_of m id ≡ Some threads → threads ≡ []
  pub at_rest :
      (id : ObjId) (thread : Tcb) → object_of m id ≡ Some (o.Tcb thread)
      → (thread.state ≡ run.Ready) ⊎ (thread.state ≡ run.Inactive)
  -- the state of a thread is the one that the table declares
  pub as_declared :
      (id : ObjId) (thread : Tcb) → object_of m id ≡ Some (o.Tcb thread)
      → (initial : Initial) × (declared : Tcb) × (initial_of t id ≡ Some initial) × (initial.object ≡ o.Tcb declared)
      × (thread.state ≡ declared.state)
  pub inboxes : (id : ObjId) (thread : Tcb) → object_of m id ≡ Some (o.Tcb thread) → thread.inbox ≡ inbox.Empty
  -- a notification has no word
  pub notifications :
      (id : ObjId) (notification : Notification) → object_of m id ≡ Some (o.Notification notification)
      → notification.pending ≡ None
  pub replies : (id : ObjId) (answer : Reply) → object_of m id ≡ Some (o.Reply answer) → answer.state ≡ reply.Free
  pub frames : (id : ObjId) (frame : Frame) → object_of m id ≡ Some (o.Frame frame) → words_of m id ≡ Some (replicate 512 0)
  -- a capability without a parent in the tree is original
  pub originals : (slot : SlotRef) (held : Cap) → cap_of m slot ≡ Some held → parent_of m slot ≡ None → held.original ≡ true
