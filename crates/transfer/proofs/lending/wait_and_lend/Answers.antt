-- That the caller waits for its answer, and that the context that it lends may be handed over.
use Rattle.{std.proofs.Common.sym, transfer.proofs.Delivered.{borrower_free, borrower_there, lender_runs}}
use Rattle.transfer.proofs.lending.wait_and_lend.Goals as goal

pub hand_over-requires-clause-runs : goal.hand_over-requires-clause-runs
hand_over-requires-clause-runs c =
    let a = c.args in
    rw (c.link.ensures.called, c.halt.ensures.halted, c.loan_made-lent.ensures)
    (lender_runs a.state.now a.caller a.receiver a.id c.requires.well_formed c.requires.caller c.requires.receiver
    c.requires.apart c.requires.free c.in-Some.lent (sym c.in-Some.ensures))

pub hand_over-requires-clause-thread : goal.hand_over-requires-clause-thread
hand_over-requires-clause-thread c =
    let a = c.args in
    rw (c.link.ensures.called, c.halt.ensures.halted, c.loan_made-lent.ensures)
    (borrower_there a.state.now a.caller a.receiver a.id c.requires.well_formed c.requires.caller c.requires.receiver
    c.requires.apart c.requires.free c.in-Some.lent (sym c.in-Some.ensures))

pub hand_over-requires-clause-free : goal.hand_over-requires-clause-free
hand_over-requires-clause-free c =
    let a = c.args in
    rw (c.link.ensures.called, c.halt.ensures.halted, c.loan_made-lent.ensures)
    (borrower_free a.state.now a.caller a.receiver a.id c.requires.well_formed c.requires.caller c.requires.receiver
    c.requires.apart c.requires.free c.in-Some.lent (sym c.in-Some.ensures))
