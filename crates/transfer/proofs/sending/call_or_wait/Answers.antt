-- That the caller and the receiver differ after the message is delivered, and the reply is free; else the caller waits nowhere.
use Rattle.std.proofs.Common.{◌∙◌, sym}
use Rattle.{steps.proofs.Threads.ready_caller_waits_nowhere, transfer.proofs.Delivered.{apart, caller_there, receiver_there, reply_free}}
use Rattle.transfer.proofs.sending.call_or_wait.Goals as goal

pub call_through-requires-clause-caller : goal.call_through-requires-clause-caller
call_through-requires-clause-caller c =
    let a = c.args in
    rw c.deliver.ensures.changes
    (caller_there a.state.now a.caller a.sending c.in-Some.receiver c.in-Some.receiving c.requires.well_formed c.requires.caller
    (sym c.in-Some.ensures))

pub call_through-requires-clause-receiver : goal.call_through-requires-clause-receiver
call_through-requires-clause-receiver c =
    let a = c.args in
    rw c.deliver.ensures.changes
    (receiver_there a.state.now a.caller a.sending c.in-Some.receiver c.in-Some.receiving c.requires.well_formed
    c.requires.caller (sym c.in-Some.ensures))

pub call_through-requires-clause-apart : goal.call_through-requires-clause-apart
call_through-requires-clause-apart c =
    let a = c.args in
    apart a.state.now a.caller a.sending c.in-Some.receiver c.in-Some.receiving c.requires.well_formed c.requires.caller
    (sym c.in-Some.ensures)

pub call_through-requires-clause-free : goal.call_through-requires-clause-free
call_through-requires-clause-free c id e =
    let a = c.args in
    rw c.deliver.ensures.changes
    (reply_free a.state.now a.caller a.sending c.in-Some.receiver c.in-Some.receiving c.requires.well_formed c.requires.caller
    (sym c.in-Some.ensures) id (sym c.answer_through.ensures ∙ e))

pub block-requires : goal.block-requires
block-requires c = ready_caller_waits_nowhere c.args.state.now c.args.caller c.requires.well_formed c.requires.caller
