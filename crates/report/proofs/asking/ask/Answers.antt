use Rattle.commands.proofs.Carried.{carried_out}
use Rattle.report.proofs.asking.ask.Goals as goal

pub returns-clause-asked : goal.returns-clause-asked
returns-clause-asked g c =
    carried_out c.load_given-given.result c.load_given-given.ensures.loaded c.load_given-given.ensures.unread c.load_given-given.ensures.labels c.answered-answer.ensures c.tell.ensures.told

pub returns-clause-heard : goal.returns-clause-heard
returns-clause-heard g c = record {
  loaded = c.load_given-given.result;
  answer = c.answered-answer.result;
  between = c.load_given-given.new.listener;
  gives = c.load_given-given.ensures.loaded;
  judged = c.answered-answer.ensures;
  told = c.tell.ensures.told;
  fault = c.load_given-given.ensures.heard;
  answered = c.tell.ensures.heard;
}
