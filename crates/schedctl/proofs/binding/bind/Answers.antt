use Rattle.machine.specs.declared.call.Call.{Call as call}
use Rattle.schedctl.proofs.binding.bind.Goals as goal

pub returns-clause-well_formed : goal.returns-clause-well_formed
returns-clause-well_formed c =
    c.calls_keep_machines_well_formed.ensures c.args.state.now c.make_bind.new.state c.args.caller (call.Bind c.args.context c.args.thread) c.make_bind.result c.requires.well_formed
    (λ no. absurd no) c.make_bind.ensures
