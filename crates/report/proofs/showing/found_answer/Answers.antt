use Rattle.std.{specs.{declared.alloc.Global.Global, Prelude.Vec}, proofs.Common.{◌∙◌, ap, arith, refl}}
use Rattle.{machine.specs.declared.call.Event.Event, evtext.specs.Script.script_text, report.proofs.Retold.plain_retold}
use Rattle.report.proofs.showing.found_answer.Goals as goal
use Rattle.report.specs.Shows as shows

pub returns-then-most-eq0-clause-told : goal.returns-then-most-eq0-clause-told
returns-then-most-eq0-clause-told c = shows.unfound 0 (omega arith) (plain_retold c.in_ok-unfound_report.ensures c.plain.ensures.plain)

pub returns-in_ok-text-in-Some-clause-told : goal.returns-in_ok-text-in-Some-clause-told
returns-in_ok-text-in-Some-clause-told c =
    shows.shown c.in-Some.script.items (rw c.in-Some.is at c.in_ok-found.ensures.found)
    (record {
      text = c.in_ok-text-in-Some.ensures.text ∙ ap script_text (c.deref.ensures.value ∙ ap (λ (script : Vec Event Global). script.items) c.in-Some.script-is);
      status = refl;
      finding = refl;
      made = refl;
      of = _;
      found = refl;
      items = ap (λ (script : Vec Event Global). script.items) c.in-Some.script-is;
    })

pub returns-in_ok-unfound_report-in-None-clause-told : goal.returns-in_ok-unfound_report-in-None-clause-told
returns-in_ok-unfound_report-in-None-clause-told c =
    shows.unfound c.in_ok-found.found.steps c.in_ok-found.ensures.bounded
    (plain_retold c.in_ok-unfound_report-in-None.ensures c.plain-in-None.ensures.plain)
