use Rattle.commands.proofs.Carried.{carried_out}
use Rattle.report.proofs.asking.ask_as.Goals as goal

pub returns-clause-asked : goal.returns-clause-asked
returns-clause-asked g c = record {
  done = carried_out c.load_with-with.result c.load_with-with.ensures.loaded c.load_with-with.ensures.unread c.load_with-with.ensures.labels c.answered_of_policy-answer.ensures c.tell.ensures.told;
  second_waits = c.load_with-with.ensures.second_waits;
}

pub returns-clause-heard : goal.returns-clause-heard
returns-clause-heard g c = record {
  loaded = c.load_with-with.result;
  answer = c.answered_of_policy-answer.result;
  between = c.load_with-with.new.listener;
  gives = c.load_with-with.ensures.loaded;
  judged = c.answered_of_policy-answer.ensures;
  told = c.tell.ensures.told;
  fault = c.load_with-with.ensures.heard;
  answered = c.tell.ensures.heard;
}
