-- That the capability that arrives is copied to an existing empty slot.
use Rattle.{std.proofs.Common.sym, transfer.proofs.ArrivingEnds.can_derive}
use Rattle.transfer.proofs.arrivals.arrive.Goals as goal

pub derive-requires-clause-there : goal.derive-requires-clause-there
derive-requires-clause-there c =
    let a = c.args in (can_derive a.state.now a.sender a.sending a.receiver a.slot c.in-Ok.ends (sym c.in-Ok.ensures)).there

pub derive-requires-clause-vacant : goal.derive-requires-clause-vacant
derive-requires-clause-vacant c =
    let a = c.args in (can_derive a.state.now a.sender a.sending a.receiver a.slot c.in-Ok.ends (sym c.in-Ok.ensures)).vacant

pub derive-requires-clause-filled : goal.derive-requires-clause-filled
derive-requires-clause-filled c =
    let a = c.args in (can_derive a.state.now a.sender a.sending a.receiver a.slot c.in-Ok.ends (sym c.in-Ok.ensures)).filled
