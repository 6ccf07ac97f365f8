-- A thread that waits nowhere still waits nowhere with another run state.
use Rattle.std.{specs.{Option.is_some, Prelude.Some}, proofs.Common.{◌∙◌, ap, sym}}
use Rattle.{machine.specs.{declared.thread.Tcb.Tcb, Machine.{object_of, queue_of}}, steps.proofs.Threads.{queue_with_tcb, thread_with_tcb}}
use Rattle.queues.proofs.wait_at.Goals as goal

pub push_last-requires-clause-present : goal.push_last-requires-clause-present
push_last-requires-clause-present c =
    let old = c.in-Some-Tcb.tcb in
    let new : Tcb = record old { state = c.args.run } in
    ap (λ m. is_some (object_of m c.args.thread)) c.set_tcb.ensures
    ∙ ap is_some
    (thread_with_tcb c.args.state.now c.args.thread old new
    (sym (c.in-Some-Tcb.ensures {u = tt}) ∙ ap (λ x. Some x) c.in-Some-Tcb.field-0-is))

pub push_last-requires-clause-free : goal.push_last-requires-clause-free
push_last-requires-clause-free c id threads queue =
    let old = c.in-Some-Tcb.tcb in
    let new : Tcb = record old { state = c.args.run } in
    c.requires id threads
    (sym
    (queue_with_tcb c.args.state.now c.args.thread old new
    (sym (c.in-Some-Tcb.ensures {u = tt}) ∙ ap (λ x. Some x) c.in-Some-Tcb.field-0-is) id)
    ∙ sym (ap (λ m. queue_of m id) c.set_tcb.ensures) ∙ queue)
