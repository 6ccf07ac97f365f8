use Rattle.flows.proofs.seeing.sees.Goals as goal

pub returns : goal.returns
returns c = rw (c.policy.ensures.policy, c.actors.ensures.actors) at c.seen_by.ensures
