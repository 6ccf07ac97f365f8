use Rattle.report.proofs.asking.summary_text.Goals as goal

pub returns-clause-text : goal.returns-clause-text
returns-clause-text c = record {
  reach = c.in_ok-reach.reach;
  is_reach = c.in_ok-reach.ensures.reach;
  kept = c.in_ok-reach.ensures.kept;
  sums = c.in_ok-text.ensures;
}
