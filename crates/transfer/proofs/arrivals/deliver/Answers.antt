-- The receiver is still in its queue after the capability arrived.
use Rattle.transfer.proofs.arrivals.deliver.Goals as goal

pub give-requires : goal.give-requires
give-requires c = λ tcb id. c.arrive-arrived.ensures.well_formed.links.waiting c.args.receiver id tcb

pub returns-clause-well_formed : goal.returns-clause-well_formed
returns-clause-well_formed c =
    rw c.give.ensures.given
    (c.releases_keep_machines_well_formed.ensures.given c.arrive-arrived.new.state c.args.receiver c.message.result
    c.arrive-arrived.ensures.well_formed)
