use Rattle.machine.specs.declared.call.Call.{Call as call}
use Rattle.frames.proofs.accesses.write_word.Goals as goal

pub returns-clause-well_formed : goal.returns-clause-well_formed
returns-clause-well_formed c =
    c.calls_keep_machines_well_formed.ensures c.args.state.now c.make_write_word.new.state c.args.caller (call.Write c.args.address c.args.index c.args.word) c.make_write_word.result c.requires.well_formed
    (λ no. absurd no) c.make_write_word.ensures
