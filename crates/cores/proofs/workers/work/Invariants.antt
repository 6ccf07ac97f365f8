use Rattle.std.proofs.Common.{◌≡◌, take}
use Rattle.cores.specs.{Seats.IsOf, SplitRun.on_core, Workers.events_of}
use Rattle.cores.proofs.workers.work.Given as goal

-- the seat has made the events on its core that stand before this one
abbrev pub invariant-loop-event : goal.invariant-loop-event
invariant-loop-event g l = record {
  of : IsOf g.J.Naming.ticket l.seat;
  number : l.seat.number ≡ l.fn.seat.number;
  core : l.seat.core ≡ l.fn.seat.core;
  made : events_of l.seat.mine ≡ on_core l.fn.seat.core (take l.event-index l.events);
}
