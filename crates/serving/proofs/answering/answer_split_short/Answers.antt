use Rattle.std.{specs.Global.Vec, proofs.Common.{ℕ, ◌∙◌, ap, inl, inr, refl}}
use Rattle.{devices.specs.{declared.watched.Watched.Watched, Watched.device_of}, verdict.specs.declared.rules.Rules.TheVariants.Closed}
use Rattle.requests.specs.declared.request.{OfThree.TheVariants.Run, Request.TheVariants.OfThree}
use Rattle.serving.proofs.answering.answer_split_short.Goals as goal

pub returns-clause-served : goal.returns-clause-served
returns-clause-served g c = record {
  files = OfThree (Run Closed) c.open_by-table.result c.open_by-policy.result c.open_by-script.result;
  end = c.run_split-end.result;
  before = c.new-kept.result;
  after = c.run_split-end.new.out;
  opened = (refl, c.open_by-table.ensures.opened, c.open_by-policy.ensures.opened, c.open_by-script.ensures.opened);
  empty = ap (λ (d : Watched (Vec ℕ)). (device_of d).items) c.new-kept.ensures ∙ c.new.ensures.items;
  done = c.run_split-end.ensures.done;
  exit = elim c.write-end.ensures [ inl same ↦ inl (c.tell-status.ensures ∙ same) | inr two ↦ inr (c.tell-status.ensures ∙ two) ];
}
