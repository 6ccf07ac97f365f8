use Rattle.commands.proofs.Carried.{carried_out}
use Rattle.report.proofs.describing.import.Goals as goal

pub returns-clause-imported : goal.returns-clause-imported
returns-clause-imported g c =
    carried_out c.load_description-described.result c.load_description-described.ensures.loaded c.load_description-described.ensures.unread c.load_description-described.ensures.labels c.imported-answer.ensures c.tell.ensures.told

pub returns-clause-heard : goal.returns-clause-heard
returns-clause-heard g c = record {
  loaded = c.load_description-described.result;
  answer = c.imported-answer.result;
  between = c.load_description-described.new.listener;
  gives = c.load_description-described.ensures.loaded;
  judged = c.imported-answer.ensures;
  told = c.tell.ensures.told;
  fault = c.load_description-described.ensures.heard;
  answered = c.tell.ensures.heard;
}
