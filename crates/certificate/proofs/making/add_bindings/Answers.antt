use Rattle.std.proofs.{Common.{[], ◌++◌, ◌∙◌, ◌∷◌, ap, append-nil, map, sym}, lemmas.List.take_all}
use Rattle.certificate.{specs.Right.runs_line, proofs.MoreLines.one_more}
use Rattle.certificate.proofs.making.add_bindings.Goals as goal

pub loop-binding-preserved : goal.loop-binding-preserved
loop-binding-preserved c =
    one_more (runs_line c.args.table.now) c.args.bindings.now c.loop-binding.binding-index _ c.args.lines.now.items c.loop-binding.lines.items _
    c.loop-binding-test.true c.loop-binding.invariant
    (c.in_ok-push.ensures.items ∙ ap (λ line. c.loop-binding.lines.items ++ line ∷ []) c.runs_line.ensures)

pub loop-binding-init : goal.loop-binding-init
loop-binding-init c = sym (append-nil c.args.lines.now.items)

pub returns : goal.returns
returns c =
    c.loop-binding.invariant
    ∙ ap (λ all. c.args.lines.now.items ++ map (runs_line c.args.table.now) all) (take_all _ _ c.loop-binding-test.false)
