use Rattle.std.proofs.Common.{◌∙◌, ap}
use Rattle.{serde_json.specs.Written.has_float, reptext.proofs.ChangeValues.changes_have_no_float}
use Rattle.reptext.proofs.differences.changes_report.Goals as goal

pub line_of-requires : goal.line_of-requires
line_of-requires c = ap has_float c.in_ok-value.ensures ∙ changes_have_no_float c.args.old.now c.args.new.now c.args.changes.now
