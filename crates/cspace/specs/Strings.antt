-- The strings of bits that this crate's numbers stand for in guarded lookup (seL4 manual, "Capability Address Lookup").
use Rattle.std.specs.Prelude.{ℕ, Bool, Err, List, Ok, Result}
use Rattle.base.specs.declared.{ids.SlotRef.SlotRef, refusal.LookupFailure.LookupFailure}
use Rattle.{machine.specs.{Bits.bits, Lookup.Level}, cspace.specs.declared.level.Level.Level as Node}

abbrev pub level_shown : Node → Level
level_shown level = record { node = level.node; guard = bits level.guard.size level.guard.value; radix = level.radix }

-- a slot and the number of low bits of an address that are left
abbrev pub place_shown : ℕ → Result (SlotRef × ℕ) LookupFailure → Result (SlotRef × List Bool) LookupFailure
place_shown address (Ok place) = Ok (place.0, bits place.1 address)
place_shown address (Err failure) = Err failure
