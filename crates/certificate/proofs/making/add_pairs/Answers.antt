use Rattle.std.proofs.{Common.{[], ◌++◌, ◌∙◌, ◌∷◌, ap, append-nil, map, sym}, lemmas.List.take_all}
use Rattle.certificate.{specs.Right.derive_line, proofs.MoreLines.one_more}
use Rattle.certificate.proofs.making.add_pairs.Goals as goal

pub loop-pair-preserved : goal.loop-pair-preserved
loop-pair-preserved c =
    one_more (derive_line c.args.table.now) c.args.pairs.now c.loop-pair.pair-index _ c.args.lines.now.items c.loop-pair.lines.items _
    c.loop-pair-test.true c.loop-pair.invariant
    (c.in_ok-push.ensures.items ∙ ap (λ line. c.loop-pair.lines.items ++ line ∷ []) c.derive_line.ensures)

pub loop-pair-init : goal.loop-pair-init
loop-pair-init c = sym (append-nil c.args.lines.now.items)

pub returns : goal.returns
returns c =
    c.loop-pair.invariant
    ∙ ap (λ all. c.args.lines.now.items ++ map (derive_line c.args.table.now) all) (take_all _ _ c.loop-pair-test.false)
