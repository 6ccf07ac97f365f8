use Rattle.commands.proofs.Carried.{carried_out}
use Rattle.report.proofs.comparing.compare.Goals as goal

pub returns-clause-compared : goal.returns-clause-compared
returns-clause-compared g c = record {
  done = carried_out c.load_two-two.result c.load_two-two.ensures.loaded c.load_two-two.ensures.unread c.load_two-two.ensures.labels c.compared-answer.ensures c.tell.ensures.told;
  new_waits = c.load_two-two.ensures.new_waits;
}

pub returns-clause-heard : goal.returns-clause-heard
returns-clause-heard g c = record {
  loaded = c.load_two-two.result;
  answer = c.compared-answer.result;
  between = c.load_two-two.new.listener;
  gives = c.load_two-two.ensures.loaded;
  judged = c.compared-answer.ensures;
  told = c.tell.ensures.told;
  fault = c.load_two-two.ensures.heard;
  answered = c.tell.ensures.heard;
}
