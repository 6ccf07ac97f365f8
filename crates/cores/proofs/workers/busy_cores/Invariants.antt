use Rattle.std.proofs.Common.{◌<◌, All, take}
use Rattle.base.specs.declared.core_number.TheConstants.CoreNo as CoreNo
use Rattle.cores.specs.Workers.{AreBusy}
use Rattle.cores.proofs.workers.busy_cores.Given as goal

-- the events that were read are on cores that there can be, and tell which cores are busy so far
abbrev pub invariant-loop-event : goal.invariant-loop-event
invariant-loop-event l = record {
  below : All (λ event. event.core < CoreNo.COUNT) (take l.event-index l.events);
  busy : AreBusy (take l.event-index l.events) l.busy;
}
