-- A thread that waits is in a queue of a well-formed machine.
use Rattle.replies.proofs.answering.answer.Goals as goal

pub give-requires : goal.give-requires
give-requires c = λ tcb id. c.give_back.ensures.well_formed.links.waiting c.in-Some.called id tcb
