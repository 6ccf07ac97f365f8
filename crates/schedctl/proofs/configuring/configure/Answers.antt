use Rattle.machine.specs.declared.call.Call.{Call as call}
use Rattle.schedctl.proofs.configuring.configure.Goals as goal

pub returns-clause-well_formed : goal.returns-clause-well_formed
returns-clause-well_formed c =
    c.calls_keep_machines_well_formed.ensures c.args.state.now c.make_configure.new.state c.args.caller (call.Configure c.args.control c.args.address c.args.budget c.args.period) c.make_configure.result c.requires.well_formed
    (λ no. absurd no) c.make_configure.ensures
