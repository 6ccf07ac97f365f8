use Rattle.{std.proofs.Common.{◌++◌, ◌∙◌, ap, string_bytes}, summary.{specs.Regions.group_text, proofs.OneMore.piece_more}}
use Rattle.summary.proofs.regions.write_regions.Goals as goal

pub loop-label-preserved : goal.loop-label-preserved
loop-label-preserved c =
    let group = group_text c.args.table.now c.args.rows.now c.args.others.now in
    let text = string_bytes c.loop-label.text in
    let label = c.label-item.result in
    piece_more group c.args.others.now c.loop-label.label-index label (string_bytes c.args.text.now) text (string_bytes c.write_group.new.text)
    c.loop-label-test.true c.loop-label.invariant (c.in_ok-write_group.ensures ∙ ap (λ l. text ++ group l) c.label-item.is)
