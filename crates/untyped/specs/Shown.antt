-- The values of this crate as the definition of a retype has them.
use Rattle.{std.specs.Prelude.{Err, Ok, Result}, base.specs.declared.refusal.Cause.Cause, machine.specs.{Lookup.Level, Memory.Source}}
use Rattle.{cspace.specs.{declared.level.Level.Level as Node, Strings.level_shown}, untyped.specs.declared.finding.Source.Source as Found}

abbrev pub source_shown : Found → Source
source_shown source = record { slot = source.slot; id = source.id; memory = source.memory }

-- the result of a look-up of untyped memory
abbrev pub found_shown : Result Found Cause → Result Source Cause
found_shown (Ok source) = Ok (source_shown source)
found_shown (Err cause) = Err cause

-- the result of a look-up of a CNode
abbrev pub taker_shown : Result Node Cause → Result Level Cause
taker_shown (Ok level) = Ok (level_shown level)
taker_shown (Err cause) = Err cause
