use Rattle.{std.proofs.Common.{refl, sym}, verdict.specs.declared.rules.Rules.TheVariants.Closed}
use Rattle.requests.specs.declared.request.{OfThree.TheVariants.Run, Request.TheVariants.OfThree}
use Rattle.serving.proofs.answering.answer_split.Goals as goal

pub returns-clause-served : goal.returns-clause-served
returns-clause-served g c = record {
  files = OfThree (Run Closed) c.open_by-table.result c.open_by-policy.result c.open_by-script.result;
  end = c.run_split-end.result;
  opened = (refl, c.open_by-table.ensures.opened, c.open_by-policy.ensures.opened, c.open_by-script.ensures.opened);
  done = c.run_split-end.ensures.done;
  exit = sym c.tell-status.ensures;
}
