use Rattle.commands.proofs.Carried.{at_zero, carried_out}
use Rattle.report.proofs.checking.check.Goals as goal

pub returns-clause-checked : goal.returns-clause-checked
returns-clause-checked g c = record {
  done = carried_out c.load_with-with.result c.load_with-with.ensures.loaded c.load_with-with.ensures.unread c.load_with-with.ensures.labels c.checked-answer.ensures.judged c.tell.ensures.told;
  second_waits = c.load_with-with.ensures.second_waits;
}

pub returns-clause-heard : goal.returns-clause-heard
returns-clause-heard g c = record {
  loaded = c.load_with-with.result;
  answer = c.checked-answer.result;
  between = c.load_with-with.new.listener;
  gives = c.load_with-with.ensures.loaded;
  judged = c.checked-answer.ensures.judged;
  told = c.tell.ensures.told;
  fault = c.load_with-with.ensures.heard;
  answered = c.tell.ensures.heard;
}

pub returns-clause-arrived : goal.returns-clause-arrived
returns-clause-arrived g c = at_zero c.tell.result c.checked-answer.ensures.arrived c.tell.ensures.told
