use Rattle.std.proofs.{Common.{[], ◌++◌, ◌∙◌, ◌∷◌, List, ap, append-nil, filter, map, sym}, lemmas.List.take_all}
use Rattle.{machine.specs.declared.layout.Filled.Filled, table.specs.Rules.kind_at}
use Rattle.certificate.{specs.Right.{is_thread, space_line}, proofs.MoreLines.{none_more, one_more_kept}}
use Rattle.certificate.proofs.making.add_spaces.Goals.{else-is_of_thread, then-is_of_thread+in_ok-push}
use Rattle.certificate.proofs.making.add_spaces.Goals as goal

pub loop-filled-preserved : goal.loop-filled-preserved
loop-filled-preserved c =
    let t = c.args.table.now in
    let keep = λ (filled : Filled). is_thread (kind_at t filled.slot.holder) in
    let old = c.loop-filled.lines.items in
    elim c.if-is_of_thread.branch [
      | then-is_of_thread+in_ok-push w ↦
          one_more_kept (space_line t) keep c.args.caps.now c.loop-filled.filled-index _ c.args.lines.now.items old c.loop-filled-test.true
          c.loop-filled.invariant _ (sym c.is_of_thread.ensures ∙ w.if-is_of_thread.true)
          (ap (λ lines. lines.items) w.lines-is ∙ w.in_ok-push.ensures.items ∙ ap (λ line. old ++ line ∷ []) w.space_line.ensures)
      | else-is_of_thread w ↦
          none_more (space_line t) keep c.args.caps.now c.loop-filled.filled-index _ c.args.lines.now.items old c.loop-filled-test.true
          c.loop-filled.invariant _ (sym c.is_of_thread.ensures ∙ w.if-is_of_thread.false) (ap (λ lines. lines.items) w.lines-is)
    ]

pub loop-filled-init : goal.loop-filled-init
loop-filled-init c = sym (append-nil c.args.lines.now.items)

pub returns : goal.returns
returns c =
    let t = c.args.table.now in
    let keep = λ (filled : Filled). is_thread (kind_at t filled.slot.holder) in
    c.loop-filled.invariant
    ∙ ap (λ (all : List Filled). c.args.lines.now.items ++ map (space_line t) (filter keep all)) (take_all _ _ c.loop-filled-test.false)
