use Rattle.std.proofs.Common.{◌++◌, ◌+◌, ◌-◌, ◌≡◌, ◌≤◌, List, length, take, vec_capacity, vec_len}
use Rattle.machine.specs.{declared.call.Outcome.Outcome as Ended, Run.Run, WellFormed.IsWellFormed}
use Rattle.kernel.proofs.runs.run.Given as goal

abbrev pub invariant-loop-event : goal.invariant-loop-event
invariant-loop-event l = record {
  ran : (made : List Ended) × (l.outcomes.items ≡ l.fn.outcomes.items ++ made)
      × Run l.fn.state (take l.event-index l.events) made l.state;
  counted : length l.outcomes.items ≡ length l.fn.outcomes.items + l.event-index;
  formed : IsWellFormed l.state;
  room : vec_len l.outcomes + (length l.events - l.event-index) ≤ vec_capacity l.outcomes;
}
