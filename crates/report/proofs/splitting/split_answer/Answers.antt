use Rattle.std.proofs.Common.{◌∙◌, refl, subst}
use Rattle.cores.specs.SplitRun.{IsSplitRun}
use Rattle.report.proofs.splitting.split_answer.Goals as goal

pub returns : goal.returns
returns g c =
    let ran = c.in_ok-log.ensures.split in
    record {
      entries = c.in_ok-log.log;
      log = record {
        boot = ran.0;
        last = ran.1;
        booted = ran.2;
        split = subst (λ events. IsSplitRun ran.0 events c.in_ok-log.log.items ran.1) (c.deref.ensures.value ∙ c.script.view_is) ran.3;
        told = c.in_ok-write_log.ensures.text;
      };
      status = refl;
      finding = refl;
      made = refl;
      script = refl;
    }
