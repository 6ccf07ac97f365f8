use Rattle.std.proofs.Common.{◌++◌, ◌≡◌, List, Some}
use Rattle.{base.specs.declared.ids.ObjId.ObjId, machine.specs.Machine.queue_of, runs.proofs.Popping.count}
use Rattle.runs.proofs.sight.queue.Given as goal

abbrev pub invariant-loop-thread : goal.invariant-loop-thread
invariant-loop-thread l =
    (threads : List ObjId) → queue_of l.fn.state l.id ≡ Some threads
    → (rest : List ObjId) × (queue_of l.state l.id ≡ Some rest) × (threads ≡ l.queue.items ++ rest)

abbrev pub decreases-loop-thread : goal.decreases-loop-thread
decreases-loop-thread l = count (queue_of l.state l.id)
