-- A move fills an empty slot that is there, and the machine stays well formed.
use Rattle.{std.proofs.Common.sym, cnodeops.proofs.CopyLemmas.{relocated_formed, source_filled, target_there, target_vacant}}
use Rattle.cnodeops.proofs.moving.move_cap.Goals as goal

pub relocate-requires-clause-there : goal.relocate-requires-clause-there
relocate-requires-clause-there c =
    target_there c.args.state.now c.args.caller c.args.to c.args.from c.in_ok-ends.ends (sym (c.in_ok-ends.ensures {u = tt}))

pub relocate-requires-clause-vacant : goal.relocate-requires-clause-vacant
relocate-requires-clause-vacant c =
    target_vacant c.args.state.now c.args.caller c.args.to c.args.from c.in_ok-ends.ends (sym (c.in_ok-ends.ensures {u = tt}))

pub relocate-requires-clause-filled : goal.relocate-requires-clause-filled
relocate-requires-clause-filled c =
    source_filled c.args.state.now c.args.caller c.args.to c.args.from c.in_ok-ends.ends (sym (c.in_ok-ends.ensures {u = tt}))

pub returns-clause-well_formed : goal.returns-clause-well_formed
returns-clause-well_formed c =
    let a = c.args in
    let found = sym (c.in_ok-ends.ensures {u = tt}) in
    rw c.relocate.ensures (relocated_formed a.state.now a.caller a.to a.from c.in_ok-ends.ends c.requires.well_formed found)
