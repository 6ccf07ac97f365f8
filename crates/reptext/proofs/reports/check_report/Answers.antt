use Rattle.std.proofs.{Common.{◌∙◌, ap}, lemmas.Result.IfOk-weaker}
use Rattle.reptext.{specs.Reports.line_of, proofs.Names.check_has_no_float}
use Rattle.reptext.proofs.reports.check_report.Goals as goal

pub line_of-requires : goal.line_of-requires
line_of-requires c =
    let cut = c.in_ok-cut.ensures in
    let full = c.in_ok-full.ensures in
    rw (c.in_ok-value.ensures cut.0 full.0 cut.2 full.2) (check_has_no_float c.args.table.now cut.0 full.0)

pub returns : goal.returns
returns c =
    let cut = c.in_ok-cut.ensures in
    let full = c.in_ok-full.ensures in
    IfOk-weaker c.line_of.result _ _
    (λ report is.
    record { cut = cut.0; full = full.0; cuts = cut.1; fulls = full.1; told = is ∙ ap line_of (c.in_ok-value.ensures cut.0 full.0 cut.2 full.2) })
    c.line_of.ensures
