use Rattle.std.proofs.{Common.{◌∙◌, ap, map, string_bytes}, lemmas.Result.IfOk-weaker}
use Rattle.{verdict.specs.Verdict.rule_name, reptext.specs.Reports.denial_report}
use Rattle.reptext.proofs.reports.denial_text.Goals as goal

pub returns : goal.returns
returns c =
    let rule = ap (λ rule. denial_report rule (map string_bytes c.deref.result.now)) c.rule.ensures in
    let names = ap (λ place. map string_bytes place) c.deref.ensures.value ∙ c.in_ok-place.ensures in
    let told = rule ∙ ap (λ place. denial_report (rule_name c.args.denial.now) place) names in
    IfOk-weaker c.denial_report.result _ _ (λ text is. is ∙ told) c.denial_report.ensures
