use Rattle.{std.proofs.Common.take, machine.specs.WellFormed.IsWellFormed, runs.specs.Shown.IsReachedBy}
use Rattle.runs.proofs.reaching.reach.Given as goal

abbrev pub invariant-loop-event : goal.invariant-loop-event
invariant-loop-event l = record {
  reached : IsReachedBy l.table (take l.event-index l.script) l.state;
  formed : IsWellFormed l.state;
}
