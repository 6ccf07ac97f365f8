use Rattle.report.proofs.asking.reach_picture.Goals as goal

pub returns-clause-text : goal.returns-clause-text
returns-clause-text c = record {
  reach = c.in_ok-reach.reach;
  is_reach = c.in_ok-reach.ensures.reach;
  kept = c.in_ok-reach.ensures.kept;
  so = rw (c.policy.ensures.policy, c.actors.ensures.actors) at c.in_ok-text.ensures;
}
