-- Capabilities that differ in rights, badge or guard alone, and machines that differ in capabilities alone: how authority grows
-- with them ('seL4 Enforces Integrity', section 3, "Authority").
use Rattle.std.specs.Prelude.{◌≡◌, Some, true}
use Rattle.base.specs.declared.{ids.{ObjId.ObjId, SlotRef.SlotRef}, rights.Rights.Rights}
use Rattle.machine.specs.{declared.cap.{Cap.Cap, Detail.{Detail, Detail as d}}, Capabilities.{can_grant, can_grant_reply, can_read}}
use Rattle.machine.specs.{Capabilities.can_write, Machine.{Machine, cap_of, object_of, parent_of}}

-- each right of the first is one of the second
pub record HasFewer (few many : Rights) : Type 0 where
  pub read : can_read few ≡ true → can_read many ≡ true
  pub write : can_write few ≡ true → can_write many ≡ true
  pub grant : can_grant few ≡ true → can_grant many ≡ true
  pub grant_reply : can_grant_reply few ≡ true → can_grant_reply many ≡ true

-- a capability of the same kind with fewer rights, whatever its badge or guard
abbrev pub IsNarrower : Detail → Detail → Type 0
IsNarrower d.Untyped d.Untyped = Unit {0}
IsNarrower (d.CNode _) (d.CNode _) = Unit {0}
IsNarrower d.Tcb d.Tcb = Unit {0}
IsNarrower (d.Endpoint one) (d.Endpoint other) = HasFewer one.rights other.rights
IsNarrower (d.Notification one) (d.Notification other) = HasFewer one.rights other.rights
IsNarrower d.Reply d.Reply = Unit {0}
IsNarrower d.Context d.Context = Unit {0}
IsNarrower (d.Frame one) (d.Frame other) = HasFewer one other
IsNarrower d.Control d.Control = Unit {0}
IsNarrower _ _ = ⊥

-- a machine has all capabilities of another, and is else the same
pub record HasMoreCaps (m more : Machine) : Type 0 where
  pub caps : (slot : SlotRef) (held : Cap) → cap_of m slot ≡ Some held → cap_of more slot ≡ Some held
  pub objects : (id : ObjId) → object_of more id ≡ object_of m id
  pub parents : (slot : SlotRef) → parent_of more slot ≡ parent_of m slot
