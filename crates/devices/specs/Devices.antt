-- Calls of devices: whether the device failed, and what was written if it did (confine's own).
use Rattle.std.specs.{declared.io.ErrorKind.{ErrorKind, TheVariants.OutOfMemory}, Io.KnownBytes.Appends, Prelude.{ℕ, Bool, Err, List, Ok}}
use Rattle.std.specs.Prelude.{Option, Result, false, take, true}
use Rattle.devices.specs.declared.source.ReadError.{ReadError, TheVariants.{Failed, NoMemory}}

-- known bytes grow by a beginning of bs, which may be none or all of it
abbrev pub AppendsBeginning : Option (List ℕ) → Option (List ℕ) → List ℕ → Type 0
AppendsBeginning old new bs = (n : ℕ) × Appends old new (take n bs)

-- the answer of a source that failed
abbrev pub is_failure : {X : Type 0} → Result X ReadError → Bool
is_failure (Ok x) = false
is_failure (Err NoMemory) = false
is_failure (Err Failed) = true

-- what a device's error is: want of memory is no failure of the device
abbrev pub read_error_of : ErrorKind → ReadError
read_error_of OutOfMemory = NoMemory
read_error_of _ = Failed
