use Rattle.std.proofs.Common.{◌∙◌, sym}
use Rattle.cores.proofs.running.Kernel.close.Goals as goal

pub returns-clause-ok : goal.returns-clause-ok
returns-clause-ok g c = record {
  history = c.show_all.new.desk;
  run = c.into_parts.ensures.run;
  formed = c.into_parts.ensures.formed;
  on_cores = c.into_parts.ensures.on_cores;
  logged = c.into_parts.ensures.logged;
  count = c.show_all.ensures.count;
  looks = c.show_all.ensures.looks;
  whole = λ i d below. c.show_all.ensures.whole i d below ∙ sym c.show_all.ensures.same;
}
