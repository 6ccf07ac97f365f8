use Rattle.std.proofs.Common.{◌≡◌, ◌≤◌, List}
use Rattle.{machine.specs.declared.call.Event.Event, cores.specs.Workers.{AreBusy, worker_number}}
use Rattle.cores.proofs.workers.number_of_worker.Given as goal

-- as many of the cores below this one are busy
abbrev pub invariant-loop-below : goal.invariant-loop-below
invariant-loop-below l = record {
  few : l.number ≤ l.below;
  counted : (events : List Event) → AreBusy events l.fn.busy → l.number ≡ worker_number events l.below;
}
