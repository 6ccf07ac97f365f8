use Rattle.transfer.proofs.receiving.make_receive.Goals as goal

pub receive_or_wait-requires-clause-free : goal.receive_or_wait-requires-clause-free
receive_or_wait-requires-clause-free c = c.end_reply.ensures.free c.args.caller c.requires.free
