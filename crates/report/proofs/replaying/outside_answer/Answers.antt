use Rattle.std.proofs.Common.{ℕ, ◌∙◌, ◌≡◌, List, ap, length, map, string_bytes}
use Rattle.{machine.specs.WellFormed.kind_of, verdict.specs.Verdict.rule_name}
use Rattle.reptext.specs.{Places.place_names_by, Reports.{line_of, outside_data}}
use Rattle.commands.proofs.Findings.{finding_told}
use Rattle.report.proofs.replaying.outside_answer.Goals as goal

pub returns : goal.returns
returns c =
    let denial = c.args.denial in
    let told : List (List ℕ) → List ℕ → List ℕ = λ place rule. line_of (outside_data c.args.entries rule place) in
    let names : map string_bytes c.deref.result.now ≡ place_names_by (kind_of c.args.state.now) c.args.table.now denial =
    ap (map string_bytes) c.deref.ensures.value ∙ c.in_ok-place.ensures in
    finding_told
    (c.in_ok-text.ensures ∙ ap (told (map string_bytes c.deref.result.now)) c.rule.ensures ∙ ap (λ place. told place (rule_name denial)) names)
    c.in_ok-new.ensures.ok c.found.ensures.finds
