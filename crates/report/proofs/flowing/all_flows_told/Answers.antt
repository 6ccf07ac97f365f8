use Rattle.report.proofs.flowing.all_flows_told.Goals as goal

pub returns-clause-text : goal.returns-clause-text
returns-clause-text c = record {
  reach = c.in_ok-reach.reach;
  is_reach = record { of_table = c.in_ok-reach.ensures.table; is = c.in_ok-reach.ensures.reach };
  told = c.in_ok-text.ensures;
}
