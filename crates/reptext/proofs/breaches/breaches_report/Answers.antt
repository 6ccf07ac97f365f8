use Rattle.std.proofs.Common.{◌∙◌, ap}
use Rattle.{serde_json.specs.Written.has_float, reptext.proofs.Fractions.breaches_have_no_float}
use Rattle.reptext.proofs.breaches.breaches_report.Goals as goal

pub line_of-requires : goal.line_of-requires
line_of-requires c =
    ap (λ value. has_float value) c.in_ok-value.ensures
    ∙ breaches_have_no_float c.args.table.now c.args.lines.now c.args.broken.now c.args.kept
