use Rattle.commands.proofs.Carried.{carried_out}
use Rattle.report.proofs.running.run.Goals as goal

pub returns-clause-done : goal.returns-clause-done
returns-clause-done g c = record {
  done = carried_out c.load_three-three.result c.load_three-three.ensures.loaded c.load_three-three.ensures.unread c.load_three-three.ensures.labels c.ran-answer.ensures c.tell.ensures.told;
  policy_waits = c.load_three-three.ensures.policy_waits;
  third_waits = c.load_three-three.ensures.third_waits;
}

pub returns-clause-heard : goal.returns-clause-heard
returns-clause-heard g c = record {
  loaded = c.load_three-three.result;
  answer = c.ran-answer.result;
  between = c.load_three-three.new.listener;
  gives = c.load_three-three.ensures.loaded;
  judged = c.ran-answer.ensures;
  told = c.tell.ensures.told;
  fault = c.load_three-three.ensures.heard;
  answered = c.tell.ensures.heard;
}
