use Rattle.cores.proofs.Seating.{new_are_of}
use Rattle.cores.proofs.opened.Opened.open.Goals as goal

pub returns-clause-seats : goal.returns-clause-seats
returns-clause-seats c =
    let seats = c.in_ok-begun.ensures.seats in (seats, new_are_of c.in_ok-begun.field-0.0 c.in_ok-begun.field-0.1.items seats)
