use Rattle.reach.proofs.least.Reach.why.Goals as goal

pub returns : goal.returns
returns c = rw (c.policy.ensures.policy, c.actors.ensures.actors) at c.why_among.ensures
