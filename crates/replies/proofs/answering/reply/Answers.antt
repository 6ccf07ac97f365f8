use Rattle.machine.specs.declared.call.Call.{Call as call}
use Rattle.replies.proofs.answering.reply.Goals as goal

pub returns-clause-well_formed : goal.returns-clause-well_formed
returns-clause-well_formed c =
    c.calls_keep_machines_well_formed.ensures c.args.state.now c.make_reply.new.state c.args.caller (call.Reply c.args.address c.args.words) c.make_reply.result c.requires.well_formed
    (λ no. absurd no) c.make_reply.ensures
