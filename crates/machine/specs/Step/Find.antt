-- Capabilities that a call finds at an address, for an object of the kind that it takes (seL4 manual, "Capability Address Lookup").
use Rattle.std.specs.Prelude.{ℕ, Bool, Err, None, Ok, Option, Result, Some, if◌then◌else◌}
use Rattle.base.specs.declared.{ids.{ObjId.ObjId, SlotRef.SlotRef}, refusal.Cause.Cause}
use Rattle.base.specs.declared.refusal.Cause.TheVariants as cause
use Rattle.machine.specs.declared.{cap.{Cap.Cap, Detail.{Detail, Detail as d}}, object.ObjectKind.{ObjectKind, ObjectKind as kind}}
use Rattle.machine.specs.{Lookup.lookup_of, Machine.{Machine, cap_of}, Refusing.◌>>=◌}

-- what a slot holds; an empty one is an invalid capability
abbrev pub held_in : Option Cap → Result Cap Cause
held_in None = Err cause.InvalidCapability
held_in (Some held) = Ok held

-- the slot at an address and the capability that it holds; a failed lookup refuses with its cause
unfoldable pub find_cap : Machine → ObjId → ℕ → Result (SlotRef × Cap) Cause
find_cap m caller address = do
  place ← lookup_of m caller address
  held ← held_in (cap_of m place.0)
  Ok (place.0, held)

-- a capability that has to be to an object of a kind
abbrev pub of_kind : ObjectKind → Detail → Result (Unit {0}) Cause
of_kind kind.Untyped d.Untyped = Ok tt
of_kind kind.CNode (d.CNode _) = Ok tt
of_kind kind.Tcb d.Tcb = Ok tt
of_kind kind.Endpoint (d.Endpoint _) = Ok tt
of_kind kind.Notification (d.Notification _) = Ok tt
of_kind kind.Reply d.Reply = Ok tt
of_kind kind.Context d.Context = Ok tt
of_kind kind.Frame (d.Frame _) = Ok tt
of_kind kind.Control d.Control = Ok tt
of_kind _ _ = Err cause.InvalidCapability

-- the slot at an address and the capability that it holds, to an object of a kind; one to another kind is an invalid capability
unfoldable pub find : ObjectKind → Machine → ObjId → ℕ → Result (SlotRef × Cap) Cause
find wanted m caller address = do
  found ← find_cap m caller address
  _ ← of_kind wanted found.1.detail
  Ok found

-- a right that the capability has to have
abbrev pub permitted : Bool → Result (Unit {0}) Cause
permitted allowed = if allowed then Ok tt else Err cause.InvalidCapability
