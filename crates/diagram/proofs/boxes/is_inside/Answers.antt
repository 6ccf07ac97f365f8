use Rattle.std.proofs.Common.{◌∙◌, sym}
use Rattle.{policy.specs.Policy.allows, diagram.proofs.Rows.apart_is}
use Rattle.diagram.proofs.boxes.is_inside.Goals as goal

pub returns-then-uses : goal.returns-then-uses
returns-then-uses c =
    apart_is (allows c.args.policy.now) c.args.rows.now c.args.row.now c.args.label c.is_apart.result (sym c.uses.ensures ∙ c.if-uses.true) c.is_apart.ensures
