use Rattle.std.proofs.{Common.{[], ◌++◌, ◌∙◌, ◌∷◌, List, ap, append-nil, filter, map, sym}, lemmas.List.take_all}
use Rattle.{machine.specs.declared.layout.Filled.Filled, table.specs.Rules.kind_at}
use Rattle.certificate.{specs.Right.{cap_line, is_cnode}, proofs.MoreLines.{none_more, one_more_kept}}
use Rattle.certificate.proofs.making.add_caps.Goals.{else-is_of_cnode, then-is_of_cnode+in_ok-push}
use Rattle.certificate.proofs.making.add_caps.Goals as goal

pub loop-filled-preserved : goal.loop-filled-preserved
loop-filled-preserved c =
    let t = c.args.table.now in
    let keep = λ (filled : Filled). is_cnode (kind_at t filled.slot.holder) in
    let old = c.loop-filled.lines.items in
    elim c.if-is_of_cnode.branch [
      | then-is_of_cnode+in_ok-push w ↦
          one_more_kept (cap_line t) keep c.args.caps.now c.loop-filled.filled-index _ c.args.lines.now.items old c.loop-filled-test.true
          c.loop-filled.invariant _ (sym c.is_of_cnode.ensures ∙ w.if-is_of_cnode.true)
          (ap (λ lines. lines.items) w.lines-is ∙ w.in_ok-push.ensures.items ∙ ap (λ line. old ++ line ∷ []) w.cap_line.ensures)
      | else-is_of_cnode w ↦
          none_more (cap_line t) keep c.args.caps.now c.loop-filled.filled-index _ c.args.lines.now.items old c.loop-filled-test.true
          c.loop-filled.invariant _ (sym c.is_of_cnode.ensures ∙ w.if-is_of_cnode.false) (ap (λ lines. lines.items) w.lines-is)
    ]

pub loop-filled-init : goal.loop-filled-init
loop-filled-init c = sym (append-nil c.args.lines.now.items)

pub returns : goal.returns
returns c =
    let t = c.args.table.now in
    let keep = λ (filled : Filled). is_cnode (kind_at t filled.slot.holder) in
    c.loop-filled.invariant
    ∙ ap (λ (all : List Filled). c.args.lines.now.items ++ map (cap_line t) (filter keep all)) (take_all _ _ c.loop-filled-test.false)
