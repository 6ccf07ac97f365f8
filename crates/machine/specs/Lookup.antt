-- Guarded lookup: the slot that an address names in a capability space (seL4 manual, "Capability Address Lookup").
use Rattle.std.specs.Prelude.{[], ℕ, ◌∷◌, Bool, Err, List, None, Ok, Option, Result, Some, length, suc, zero}
use Rattle.base.specs.declared.{ids.{ObjId.ObjId, SlotRef.SlotRef}, refusal.{Cause.Cause, LookupFailure.LookupFailure}}
use Rattle.base.specs.declared.refusal.Cause.TheVariants as cause
use Rattle.base.specs.declared.refusal.LookupFailure.TheVariants.{DepthMismatch, GuardMismatch, InvalidRoot}
use Rattle.machine.specs.declared.{cap.{Cap.Cap, Detail.{Detail, Detail as d}, Guard.Guard}, object.Object.{Object, Object as o}}
use Rattle.machine.specs.{Bits.{after, bits, number, split}, Machine.{Machine, cap_of, object_of}}

-- a CNode as a capability shows it: the bits that an address must continue with, and the number of bits that select a slot
pub record Level : Type 0 where
  pub node : ObjId
  pub guard : List Bool
  pub radix : ℕ

abbrev pub level_through : ObjId → Guard → Option Object → Option Level
level_through node guard (Some (o.CNode slots)) =
    Some (record { node = node; guard = bits guard.size guard.value; radix = slots.radix })
level_through node guard _ = None

-- the CNode that a capability shows, if it is a CNode's
abbrev pub level_of_cap : Machine → Option Cap → Option Level
level_of_cap m None = None
level_of_cap m (Some held) = by_detail m held.object held.detail where
  by_detail : Machine → ObjId → Detail → Option Level
  by_detail m node (d.CNode guard) = level_through node guard (object_of m node)
  by_detail m node _ = None

-- the CNode whose capability a slot holds
unfoldable pub level_at : Machine → SlotRef → Option Level
level_at m slot = level_of_cap m (cap_of m slot)

-- the slot that the string selects in one CNode, and the rest of the string
unfoldable pub hop : Level → List Bool → Result (SlotRef × List Bool) LookupFailure
hop level string = select level (after level.guard string) where
  slot_of : Level → Option (List Bool × List Bool) → Result (SlotRef × List Bool) LookupFailure
  slot_of level None = Err DepthMismatch
  slot_of level (Some parts) = Ok (record { holder = level.node; index = number parts.0 }, parts.1)

  select : Level → Option (List Bool) → Result (SlotRef × List Bool) LookupFailure
  select level None = Err GuardMismatch
  select level (Some rest) = slot_of level (split level.radix rest)

-- the lookup goes on at a slot's CNode while bits are left
abbrev pub onward :
    (Level → List Bool → Result (SlotRef × List Bool) LookupFailure) → Machine → Result (SlotRef × List Bool) LookupFailure
    → Result (SlotRef × List Bool) LookupFailure
onward go m (Err failure) = Err failure
onward go m (Ok place) = further go place (level_at m place.0) place.1 where
  further :
      (Level → List Bool → Result (SlotRef × List Bool) LookupFailure) → SlotRef × List Bool → Option Level → List Bool
      → Result (SlotRef × List Bool) LookupFailure
  further go place _ [] = Ok place
  further go place None (b ∷ bs) = Ok place
  further go place (Some level) (b ∷ bs) = go level (b ∷ bs)

-- the slot where a lookup from a CNode ends, and the bits that are left, within a number of CNodes
unfoldable pub walk : ℕ → Machine → Level → List Bool → Result (SlotRef × List Bool) LookupFailure
walk zero m level string = Err DepthMismatch
walk (suc most) m level string = onward (λ next rest. walk most m next rest) m (hop level string)

abbrev pub root_of : ObjId → SlotRef
root_of thread = record { holder = thread; index = 0 }

-- a lookup's end with the number of bits that are left, or its failure as a cause of refusal
abbrev pub counted : Result (SlotRef × List Bool) LookupFailure → Result (SlotRef × ℕ) Cause
counted (Ok place) = Ok (place.0, length place.1)
counted (Err failure) = Err (cause.FailedLookup failure)

-- ordinary lookup: all 64 bits of an address, from the root of a thread; each CNode takes at least one bit, so 64 CNodes suffice
unfoldable pub lookup_of : Machine → ObjId → ℕ → Result (SlotRef × ℕ) Cause
lookup_of m thread address = from_root (level_of_root (object_of m thread)) where
  level_of_root : Option Object → Option Level
  level_of_root (Some (o.Tcb _)) = level_at m (root_of thread)
  level_of_root _ = None

  from_root : Option Level → Result (SlotRef × ℕ) Cause
  from_root None = Err (cause.FailedLookup InvalidRoot)
  from_root (Some level) = counted (walk 65 m level (bits 64 address))
