-- Objects made from untyped memory: what is made, where, and the machine after it (seL4 manual, "Untyped Memory" and "Object
-- Creation"; where an object lies is confine's own).
use Rattle.std.specs.{FinMap.entries, Int.next_multiple_of, List.list_any, Prelude.{[], ℕ, ◌+◌, ◌∷◌, Bool, List, None, if◌then◌else◌}}
use Rattle.{std.specs.Prelude.{suc, true, zero}, base.specs.{declared.ids.{ObjId.ObjId, SlotRef.SlotRef}, Rights.rights_with}}
use Rattle.machine.specs.declared.{cap.{Cap.Cap, Detail.{Detail, Detail as d}}, object.MemoryKind.MemoryKind}
use Rattle.machine.specs.declared.object.{Object.{Object, Object as o}, ReplyState.ReplyState as reply, Untyped.Untyped}
use Rattle.machine.specs.{Machine.{Machine, same_slot, with_cap, with_new, with_object, with_parent}, Objects.size_of}
use Rattle.machine.specs.declared.object.MemoryKind.TheVariants as kind
use Rattle.machine.specs.declared.thread.Inbox.TheVariants as inbox
use Rattle.machine.specs.declared.thread.RunState.TheVariants as state

-- a new object of a kind at an address; untyped memory and CNodes come in several sizes
abbrev pub new_object : MemoryKind → ℕ → ℕ → Object
new_object kind.Untyped bits address = o.Untyped (record { base = address; bits = bits; watermark = address })
new_object kind.CNode bits address = o.CNode (record { address = address; radix = bits })
new_object kind.Tcb bits address =
    o.Tcb (record { address = address; state = state.Inactive; inbox = inbox.Empty; context = None })
new_object kind.Endpoint bits address = o.Endpoint (record { address = address })
new_object kind.Notification bits address = o.Notification (record { address = address; pending = None })
new_object kind.Reply bits address = o.Reply (record { address = address; state = reply.Free })
new_object kind.Context bits address = o.Context (record { address = address; share = None; thread = None })
new_object kind.Frame bits address = o.Frame (record { address = address })

-- the number of bytes that a new object takes
abbrev pub new_size : MemoryKind → ℕ → ℕ
new_size kind bits = size_of (new_object kind bits 0)

-- what the capability of a new object says: all rights of its kind, no badge, and no guard
abbrev pub new_detail : MemoryKind → Detail
new_detail kind.Untyped = d.Untyped
new_detail kind.CNode = d.CNode (record { size = 0; value = 0 })
new_detail kind.Tcb = d.Tcb
new_detail kind.Endpoint = d.Endpoint (record { rights = rights_with 15; badge = 0 })
new_detail kind.Notification = d.Notification (record { rights = rights_with 3; badge = 0 })
new_detail kind.Reply = d.Reply
new_detail kind.Context = d.Context
new_detail kind.Frame = d.Frame (rights_with 3)

abbrev pub new_cap : ℕ → MemoryKind → Cap
new_cap number kind = record { object = record { 0 = number }; detail = new_detail kind; original = true }

-- where the next object of a size lies: at the first multiple of the size at or after the watermark
abbrev pub placed : ℕ → Untyped → ℕ
placed size memory = next_multiple_of memory.watermark size

-- the memory after that object is made: the watermark is at the object's end
abbrev pub taken : ℕ → Untyped → Untyped
taken size memory = record memory { watermark = placed size memory + size }

-- the memory after a number of objects, one after another
abbrev pub all_taken : ℕ → ℕ → Untyped → Untyped
all_taken zero size memory = memory
all_taken (suc count) size memory = all_taken count size (taken size memory)

-- untyped memory that objects are made from, with the slot of its capability
pub record Source : Type 0 where
  pub slot : SlotRef
  pub id : ObjId
  pub memory : Untyped

-- whether a slot has a child in the derivation tree
unfoldable pub has_child : Machine → SlotRef → Bool
has_child m slot = list_any (λ pair. same_slot pair.1 slot) (entries m.parents)

-- where the making begins: at the watermark, or at the base if the capability has no child
abbrev pub begun : Machine → Source → Source
begun m source =
    if has_child m source.slot then source
    else record source { memory = record source.memory { watermark = source.memory.base } }

-- the next object is made: its capability is in a slot, as a child of the untyped memory's, and the watermark is at its end
unfoldable pub with_made : Machine → Source → MemoryKind → ℕ → SlotRef → Machine
with_made m source kind bits slot =
    with_parent
    (with_cap
    (with_new (with_object m source.id (o.Untyped (taken (new_size kind bits) source.memory)))
    (new_object kind bits (placed (new_size kind bits) source.memory)))
    slot (new_cap m.next kind)) slot source.slot

-- objects are made one after another, with a slot for each
abbrev pub with_all_made : Machine → Source → MemoryKind → ℕ → List SlotRef → Machine
with_all_made m source kind bits [] = m
with_all_made m source kind bits (slot ∷ slots) =
    with_all_made (with_made m source kind bits slot) (record source { memory = taken (new_size kind bits) source.memory })
    kind bits slots
