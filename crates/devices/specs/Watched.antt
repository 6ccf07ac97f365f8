-- A reader or a writer, and what is kept of its calls (confine's own).
use Rattle.std.specs.{declared.io.ErrorKind.ErrorKind, Prelude.{Bool, None, Option, false, true}}
use Rattle.devices.specs.declared.watched.Watched.{Watched}

-- a reader or a writer that hasn't been called
abbrev pub watched : {D : Type 0} → D → Watched D
watched device = record { device = device; failed = false; is_flushed = true; why = None }

-- the reader or writer
abbrev pub device_of : {D : Type 0} → Watched D → D
device_of watched = watched.device

-- whether one of its calls failed
abbrev pub failed_of : {D : Type 0} → Watched D → Bool
failed_of watched = watched.failed

-- whether a flush came after all that was written
abbrev pub is_flushed_of : {D : Type 0} → Watched D → Bool
is_flushed_of watched = watched.is_flushed

-- why the last read failed that did, if one did
abbrev pub why_unread : {D : Type 0} → Watched D → Option ErrorKind
why_unread watched = watched.why
