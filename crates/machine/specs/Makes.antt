-- Code of a call that meets the call's definition: it has the definition's result and leaves the definition's machine, or refuses with
-- its cause and leaves the machine as it was.
use Rattle.std.specs.Prelude.{◌≡◌, Err, IsOk, Ok, Result}
use Rattle.base.specs.declared.refusal.Cause.{Cause}
use Rattle.machine.specs.{declared.call.{Made.Made, Unmade.{Unmade, TheVariants.{OutOfMemory, Refused}}}, Machine.Machine}

abbrev pub Makes : Machine → Machine → Result Made Cause → Result (Made × Machine) Cause → Type 0
Makes old new (Ok made) defined = defined ≡ Ok (made, new)
Makes old new (Err cause) defined = (defined ≡ Err cause) × (new ≡ old)

-- a call that takes memory does so too, or lacks memory where the definition makes it, and leaves the machine as it was
abbrev pub MakesWithMemory : Machine → Machine → Result Made Unmade → Result (Made × Machine) Cause → Type 0
MakesWithMemory old new (Ok made) defined = defined ≡ Ok (made, new)
MakesWithMemory old new (Err (Refused cause)) defined = (defined ≡ Err cause) × (new ≡ old)
MakesWithMemory old new (Err OutOfMemory) defined = IsOk defined × (new ≡ old)
