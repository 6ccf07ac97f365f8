-- A thread that is admitted is ready, and waits nowhere.
use Rattle.{std.proofs.Common.sym, steps.proofs.{Admission.admits, Threads.caller_waits_nowhere}}
use Rattle.kernel.proofs.calls.make.Goals as goal

pub wait-requires : goal.wait-requires
wait-requires c =
    caller_waits_nowhere c.args.state.now c.args.event.now.core c.args.event.now.thread c.in_ok-admit.field-0 c.requires.formed
    (sym (c.in_ok-admit.ensures {u = tt}))

pub send-requires-clause-caller : goal.send-requires-clause-caller
send-requires-clause-caller c =
    admits c.args.state.now c.args.event.now.core c.args.event.now.thread c.in_ok-admit.field-0 (sym (c.in_ok-admit.ensures {u = tt}))

pub call-requires-clause-caller : goal.call-requires-clause-caller
call-requires-clause-caller c =
    admits c.args.state.now c.args.event.now.core c.args.event.now.thread c.in_ok-admit.field-0 (sym (c.in_ok-admit.ensures {u = tt}))

pub receive-requires-clause-caller : goal.receive-requires-clause-caller
receive-requires-clause-caller c =
    admits c.args.state.now c.args.event.now.core c.args.event.now.thread c.in_ok-admit.field-0 (sym (c.in_ok-admit.ensures {u = tt}))

pub fetch-requires-clause-caller : goal.fetch-requires-clause-caller
fetch-requires-clause-caller c =
    admits c.args.state.now c.args.event.now.core c.args.event.now.thread c.in_ok-admit.field-0 (sym (c.in_ok-admit.ensures {u = tt}))
