-- A copy fills an empty slot that is there, and the machine stays well formed.
use Rattle.{std.proofs.Common.sym, cnodeops.proofs.CopyLemmas.{copied_formed, source_filled, target_there, target_vacant}}
use Rattle.cnodeops.proofs.copying.copy.Goals as goal

pub derive-requires-clause-there : goal.derive-requires-clause-there
derive-requires-clause-there c =
    target_there c.args.state.now c.args.caller c.args.to c.args.from c.in_ok-ends.ends (sym (c.in_ok-ends.ensures {u = tt}))

pub derive-requires-clause-vacant : goal.derive-requires-clause-vacant
derive-requires-clause-vacant c =
    target_vacant c.args.state.now c.args.caller c.args.to c.args.from c.in_ok-ends.ends (sym (c.in_ok-ends.ensures {u = tt}))

pub derive-requires-clause-filled : goal.derive-requires-clause-filled
derive-requires-clause-filled c =
    source_filled c.args.state.now c.args.caller c.args.to c.args.from c.in_ok-ends.ends (sym (c.in_ok-ends.ensures {u = tt}))

pub returns-clause-well_formed : goal.returns-clause-well_formed
returns-clause-well_formed c =
    let a = c.args in
    let found = sym (c.in_ok-ends.ensures {u = tt}) in
    let may = sym (c.in_ok-copyable.ensures {u = tt}) in
    rw (c.derive.ensures.copy, c.masked.ensures)
    (copied_formed a.state.now a.caller a.to a.from a.rights c.in_ok-ends.ends c.requires.well_formed found may)
