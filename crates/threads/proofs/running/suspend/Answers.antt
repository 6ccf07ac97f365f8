use Rattle.machine.specs.declared.call.Call.{Call as call}
use Rattle.threads.proofs.running.suspend.Goals as goal

pub returns-clause-well_formed : goal.returns-clause-well_formed
returns-clause-well_formed c =
    c.calls_keep_machines_well_formed.ensures c.args.state.now c.make_suspend.new.state c.args.caller (call.Suspend c.args.address) c.make_suspend.result c.requires.well_formed
    (λ no. absurd no) c.make_suspend.ensures
