use Rattle.{machine.specs.declared.call.Call.Call as call, steps.proofs.Threads.ready_caller_waits_nowhere}
use Rattle.transfer.proofs.sending.send.Goals as goal

pub make_send-requires-clause-free : goal.make_send-requires-clause-free
make_send-requires-clause-free c = ready_caller_waits_nowhere c.args.state.now c.args.caller c.requires.well_formed c.requires.caller

pub returns-clause-well_formed : goal.returns-clause-well_formed
returns-clause-well_formed c =
    c.calls_keep_machines_well_formed.ensures c.args.state.now c.make_send.new.state c.args.caller (call.Send c.args.address c.args.words c.args.capability) c.make_send.result c.requires.well_formed
    (λ _. c.requires.caller) c.make_send.ensures
