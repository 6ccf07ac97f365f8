use Rattle.policy.proofs.policy.Policy.lesser_guarded.Goals as goal

pub returns : goal.returns
returns c = (c.in_ok-walk.walk, c.in_ok-walk.ensures, c.lesser.ensures)
