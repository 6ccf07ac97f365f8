-- The lookup of a target from a CNode that was found (seL4 manual, "Capability Address Lookup").
use Rattle.{std.specs.Prelude.{ℕ, Result}, base.specs.declared.{ids.SlotRef.SlotRef, refusal.Cause.Cause}}
use Rattle.machine.specs.{Bits.bits, Lookup.{Level, counted, walk}, Machine.Machine, Refusing.◌>>=◌, Step.Target.{exactly, in_depth}}

-- the slot to which the low `depth` bits of an index lead from a CNode
unfoldable pub target_below : Machine → Level → ℕ → ℕ → Result SlotRef Cause
target_below m level index depth = do
  _ ← in_depth depth
  place ← counted (walk 65 m level (bits depth index))
  exactly place
