use Rattle.std.proofs.Common.{◌∙◌, ap}
use Rattle.{reach.specs.Extents.limits_by, diagram.proofs.Rows.drawing_is}
use Rattle.diagram.proofs.drawing.write_programs.Goals as goal

pub returns : goal.returns
returns c =
    drawing_is c.args.table.now (limits_by c.args.policy.now c.args.actors) c.in_ok-rows.rows.items c.deref.result.now c.in_ok-others.others.items
    c.deref-2.result.now c.into_bytes.result.items c.in_ok-rows.ensures c.deref.ensures.value c.in_ok-others.ensures c.deref-2.ensures.value
    (ap (λ bytes. bytes.items) c.into_bytes.ensures.value ∙ c.in_ok-drawing_of.ensures)
