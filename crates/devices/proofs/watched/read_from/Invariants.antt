use Rattle.std.specs.Io.KnownBytes.{Keeps}
use Rattle.devices.proofs.watched.read_from.Given as goal

-- interruptions read nothing
abbrev pub invariant-loop : goal.invariant-loop
invariant-loop g l = Keeps (g.R.Read.remaining l.initial.reader) (g.R.Read.remaining l.reader)
