-- The slots that a call names below a CNode: an empty one to fill, and a filled one to take from (seL4 manual, "Capability Address
-- Lookup"; the order of the conditions is confine's own).
use Rattle.std.specs.Prelude.{ℕ, ◌&&◌, ◌==◌, Err, None, Ok, Option, Result, Some, if◌then◌else◌, nat_le}
use Rattle.base.specs.declared.{ids.{ObjId.ObjId, SlotRef.SlotRef}, refusal.Cause.{Cause, Cause as cause}}
use Rattle.base.specs.declared.refusal.LookupFailure.TheVariants.{DepthMismatch, InvalidRoot, MissingCapability}
use Rattle.machine.specs.declared.{cap.Cap.Cap, object.ObjectKind.ObjectKind as kind, slot_address.{Ends.Ends, SlotAddress.SlotAddress}}
use Rattle.machine.specs.{Bits.bits, Lookup.{Level, counted, level_at, lookup_of, walk}, Machine.{Machine, cap_of}, Refusing.◌>>=◌}
use Rattle.machine.specs.Step.Find.{find}

-- a lookup begins at a CNode
abbrev pub rooted : Option Level → Result Level Cause
rooted None = Err (cause.FailedLookup InvalidRoot)
rooted (Some level) = Ok level

-- this many bits of an index can be looked up
abbrev pub in_depth : ℕ → Result (Unit {0}) Cause
in_depth depth = if nat_le 1 depth && nat_le depth 64 then Ok tt else Err cause.RangeError

-- a lookup that has to use up all its bits
abbrev pub exactly : SlotRef × ℕ → Result SlotRef Cause
exactly place = if place.1 == 0 then Ok place.0 else Err (cause.FailedLookup DepthMismatch)

-- target lookup: the slot to which the low `depth` bits of an index lead, from the CNode whose capability a slot holds
unfoldable pub lookup_target_of : Machine → SlotRef → ℕ → ℕ → Result SlotRef Cause
lookup_target_of m from index depth = do
  level ← rooted (level_at m from)
  _ ← in_depth depth
  place ← counted (walk 65 m level (bits depth index))
  exactly place

-- the slot that a call names as its target
unfoldable pub target_of : Machine → ObjId → SlotAddress → Result SlotRef Cause
target_of m caller address = do
  found ← find kind.CNode m caller address.root
  lookup_target_of m found.0 address.index address.depth

-- a slot that has to be empty
abbrev pub vacant : Option Cap → Result (Unit {0}) Cause
vacant None = Ok tt
vacant (Some _) = Err cause.DeleteFirst

-- what a slot holds that a lookup found
abbrev pub filled : Option Cap → Result Cap Cause
filled None = Err (cause.FailedLookup MissingCapability)
filled (Some held) = Ok held

-- the slot that a call names as its source, with the capability in it
unfoldable pub source_of : Machine → ObjId → SlotAddress → Result (SlotRef × Cap) Cause
source_of m caller address = do
  place ← lookup_of m caller address.root
  slot ← lookup_target_of m place.0 address.index address.depth
  held ← filled (cap_of m slot)
  Ok (slot, held)

-- the slots that a call names to fill one from the other: first the empty one, then the filled one
unfoldable pub ends_of : Machine → ObjId → SlotAddress → SlotAddress → Result Ends Cause
ends_of m caller to from = do
  target ← target_of m caller to
  _ ← vacant (cap_of m target)
  source ← source_of m caller from
  Ok (record { target = target; source = source.0; held = source.1 })
