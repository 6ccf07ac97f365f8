use Rattle.std.specs.Io.KnownBytes.{Keeps}
use Rattle.devices.proofs.watched.flush_to.Given as goal

-- interruptions write nothing
abbrev pub invariant-loop : goal.invariant-loop
invariant-loop g l = Keeps (g.W.Write.contents l.initial.writer) (g.W.Write.contents l.writer)
