-- A thread that waits nowhere still waits nowhere after the holder is halted.
use Rattle.{std.proofs.Common.{subst, sym}, machine.specs.Machine.Machine}
use Rattle.{objects.specs.Waiting.WaitsNowhere, transfer.proofs.Elsewhere.free_halted_holder}
use Rattle.transfer.proofs.receiving.end_reply.Goals as goal

pub returns-in-Some-clause-free : goal.returns-in-Some-clause-free
returns-in-Some-clause-free c thread free =
    subst (λ (m : Machine). WaitsNowhere m thread) (sym c.unlink.ensures.unlinked)
    (free_halted_holder c.args.state.now c.in-Some.id thread free)
