use Rattle.std.proofs.Common.{◌↔◌, drop}
use Rattle.integrity.specs.Shrinks.{IsPart}
use Rattle.runs.proofs.comparing.is_part.Given as goal

abbrev pub invariant-loop-thread : goal.invariant-loop-thread
invariant-loop-thread l = IsPart l.part l.all ↔ IsPart l.rest (drop l.thread-index l.all)
