use Rattle.{std.proofs.Common.take, machine.specs.WellFormed.IsWellFormed, kernel.specs.Legal.IsLogBetween}
use Rattle.kernel.proofs.replaying.replay.Given as goal

-- the entries so far are steps
abbrev pub invariant-loop-index : goal.invariant-loop-index
invariant-loop-index l = record {
  led : IsLogBetween l.fn.state (take l.index l.entries) l.state;
  formed : IsWellFormed l.state;
}
