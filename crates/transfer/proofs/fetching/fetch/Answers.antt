use Rattle.machine.specs.declared.call.Call.{Call as call}
use Rattle.transfer.proofs.fetching.fetch.Goals as goal

pub returns-clause-well_formed : goal.returns-clause-well_formed
returns-clause-well_formed c =
    c.calls_keep_machines_well_formed.ensures c.args.state.now c.make_fetch.new.state c.args.caller call.Fetch c.make_fetch.result c.requires.well_formed
    (λ _. c.requires.caller) c.make_fetch.ensures
