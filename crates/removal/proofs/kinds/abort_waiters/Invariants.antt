-- Links stay agreed, and who still waits is left to be aborted.
use Rattle.std.specs.Prelude.{◌≡◌, length}
use Rattle.{machine.specs.{Machine.queue_of, WellFormed.LinksAgree}, removal.specs.Finalised.{members, with_waiters_aborted}}
use Rattle.removal.proofs.kinds.abort_waiters.Given as goal

abbrev pub invariant-loop-thread : goal.invariant-loop-thread
invariant-loop-thread l =
    record {
      agreed : LinksAgree l.state;
      same : with_waiters_aborted l.state l.id ≡ with_waiters_aborted l.fn.state l.id;
    }

abbrev pub decreases-loop-thread : goal.decreases-loop-thread
decreases-loop-thread l = length (members (queue_of l.state l.id))
