use Rattle.std.{specs.List.zip, proofs.Common.{◌++◌, ◌∙◌, ap, refl, subst, sym}}
use Rattle.{machine.specs.Run.Run, evtext.specs.Log.log_text}
use Rattle.report.proofs.running.run_answer.Goals as goal

pub returns : goal.returns
returns c =
    let ran = c.in_ok-ran.ensures.ran in
    let outcomes = c.run-ran.new.outcomes in
    let items = ran.1 ∙ ap (λ xs. xs ++ ran.0) c.new-outcomes.ensures.items in
    let script = c.as_slice-events.ensures.value ∙ c.script.view_is in
    record {
      outcomes = outcomes;
      log = record {
        boot = c.in_ok-state.state;
        last = c.run-ran.new.state;
        booted = c.in_ok-state.ensures.booted;
        ran =
            subst (λ os. Run c.in_ok-state.state c.args.script.now os c.run-ran.new.state) (sym items)
            (subst (λ events. Run c.in_ok-state.state events ran.0 c.run-ran.new.state) script ran.2);
        told =
            c.in_ok-write_run.ensures ∙ ap (λ xs. log_text (zip c.as_slice-events.result.now xs)) c.deref.ensures.value
            ∙ ap (λ events. log_text (zip events outcomes.items)) script;
      };
      status = refl;
      finding = refl;
      made = refl;
      script = refl;
    }
