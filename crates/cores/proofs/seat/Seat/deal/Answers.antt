use Rattle.cores.proofs.Seating.{dealt_seated}
use Rattle.cores.proofs.seat.Seat.deal.Goals as goal

pub invariant_of-result : goal.invariant_of-result
invariant_of-result c =
    let next = c.requires.next in
    dealt_seated c.deal-token.result next.start c.args.number c.args.core c.args.keeper.now.me.0 next.view c.deal-token.ensures.seat.1 next.on_core
