-- Readers with a limit, of which only a number of bytes can be read (confine's own).
use Rattle.std.specs.Prelude.{ℕ, ◌-◌, List, None, Option, Some, if◌then◌else◌, leb}
use Rattle.devices.specs.declared.bounded.Bounded.{Bounded}

abbrev pub bounded : {R : Type 0} → R → ℕ → Bounded R
bounded reader limit = record { reader = reader; left = Some limit }

-- how many more bytes may be read; none at all, once more were read than may be
abbrev pub bytes_allowed : {R : Type 0} → Bounded R → Option ℕ
bytes_allowed bounded = bounded.left

-- how many bytes may still be read after a number of those that may be
abbrev pub allowed_after : ℕ → ℕ → Option ℕ
allowed_after left n = if leb n left then Some (left - n) else None

-- the bytes that are left to read, where they are known
abbrev pub bytes_there : {R : Type 0} → (R → Option (List ℕ)) → Bounded R → Option (List ℕ)
bytes_there remaining bounded = remaining bounded.reader
