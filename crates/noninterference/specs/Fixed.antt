-- Fixed systems: those in which no slot of a CNode holds a capability for a CNode or for a thread, what stays in their runs, and which
-- calls they refuse (confine's own).
use Rattle.std.specs.Prelude.{◌↔◌, ◌≡◌, ◌≢◌, None, Some, option_map}
use Rattle.base.specs.declared.ids.{ObjId.ObjId, SlotRef.SlotRef}
use Rattle.machine.specs.declared.{call.Call.{Call, Call as call}, cap.Cap.Cap}
use Rattle.machine.specs.declared.object.{Object.{Object, Object as o}, ObjectKind.ObjectKind as kind}
use Rattle.machine.specs.{Capabilities.kind_of_detail, Layout.{Layout, initial_cap}, Machine.{Machine, cap_of, object_of, parent_of}}
use Rattle.{machine.specs.{Objects.address_of, WellFormed.kind_of}, table.specs.Rules.kind_at}

-- each capability in a slot of a CNode is neither for a CNode nor for a thread; the root slot of a thread holds one for a CNode, and
-- doesn't count
abbrev pub IsFixed : Layout → Type 0
IsFixed t =
    (slot : SlotRef) (held : Cap) → initial_cap t slot ≡ Some held → kind_at t slot.holder ≡ Some kind.CNode
    → (kind_of_detail held.detail ≢ kind.CNode) × (kind_of_detail held.detail ≢ kind.Tcb)

-- an object that isn't a thread, a notification, a reply or a scheduling context: no call changes its content that needs no capability
-- for a CNode or for a thread
abbrev pub IsStill : Object → Type 0
IsStill (o.Tcb _) = ⊥
IsStill (o.Notification _) = ⊥
IsStill (o.Reply _) = ⊥
IsStill (o.Context _) = ⊥
IsStill _ = Unit {0}

-- the machine has the capabilities, the derivation tree and the objects of the boot state, each of its kind and at its address, and all
-- but threads, notifications, replies and scheduling contexts just as they were
pub record StaysFixed (boot m : Machine) : Type 0 where
  pub caps : (slot : SlotRef) → cap_of m slot ≡ cap_of boot slot
  pub parents : (slot : SlotRef) → parent_of m slot ≡ parent_of boot slot
  pub present : (id : ObjId) → (object_of m id ≡ None) ↔ (object_of boot id ≡ None)
  pub kinds : (id : ObjId) → kind_of m id ≡ kind_of boot id
  pub addresses : (id : ObjId) → option_map address_of (object_of m id) ≡ option_map address_of (object_of boot id)
  pub contents : (id : ObjId) (object : Object) → object_of boot id ≡ Some object → IsStill object → object_of m id ≡ Some object
  pub next : m.next ≡ boot.next

-- the call needs a capability for a CNode or for a thread: it names a slot below a CNode, a CNode to fill or a thread
abbrev pub NeedsNodeOrThread : Call → Type 0
NeedsNodeOrThread (call.Copy _ _ _) = Unit {0}
NeedsNodeOrThread (call.Mint _ _ _ _) = Unit {0}
NeedsNodeOrThread (call.Move _ _) = Unit {0}
NeedsNodeOrThread (call.Delete _) = Unit {0}
NeedsNodeOrThread (call.Revoke _) = Unit {0}
NeedsNodeOrThread (call.Retype _ _ _ _ _ _) = Unit {0}
NeedsNodeOrThread (call.SetSpace _ _) = Unit {0}
NeedsNodeOrThread (call.ClearSpace _) = Unit {0}
NeedsNodeOrThread (call.Suspend _) = Unit {0}
NeedsNodeOrThread (call.Resume _) = Unit {0}
NeedsNodeOrThread (call.Bind _ _) = Unit {0}
NeedsNodeOrThread _ = ⊥
