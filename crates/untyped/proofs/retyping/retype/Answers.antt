use Rattle.std.proofs.Common.{sym}
use Rattle.untyped.proofs.retyping.retype.Goals as goal

pub returns-in-Ok-clause-row : goal.returns-in-Ok-clause-row
returns-in-Ok-clause-row c = rw c.in-Ok.ensures.ok (sym (c.in_ok-making.ensures {u = tt}).row)

pub returns-in-Ok-clause-well_formed : goal.returns-in-Ok-clause-well_formed
returns-in-Ok-clause-well_formed c =
    let a = c.args in
    rw c.in-Ok.ensures.ok
    (c.retypes_keep_machines_well_formed.ensures a.state.now a.caller a.untyped a.kind a.bits a.to a.offset a.count _ _
    c.requires.well_formed (sym (c.in_ok-making.ensures {u = tt}).row))
