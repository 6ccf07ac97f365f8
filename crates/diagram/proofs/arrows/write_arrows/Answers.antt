-- Each turn writes the arrows from one program more.
use Rattle.{std.{specs.List.flat_map, proofs.Common.{ℕ, ◌++◌, ◌∙◌, List, ap, string_bytes}}, policy.specs.Policy.allows}
use Rattle.{summary.{specs.declared.rows.Row.Row, proofs.OneMore.piece_more}, diagram.specs.{Folded.arrow_text, Programs.program_of}}
use Rattle.diagram.proofs.arrows.write_arrows.Goals as goal

pub loop-row-preserved : goal.loop-row-preserved
loop-row-preserved c =
    let program = program_of (allows c.args.policy.now) in
    let rows = c.args.rows.now in
    let from : Row → List ℕ = λ row. flat_map (λ other. arrow_text c.args.table.now c.args.others.now (program row) (program other)) rows in
    let row = c.row-item.result in
    let text = string_bytes c.loop-row.text in
    piece_more from rows c.loop-row.row-index row (string_bytes c.args.text.now) text (string_bytes c.write_arrows_from.new.text) c.loop-row-test.true
    c.loop-row.invariant (c.in_ok-write_arrows_from.ensures ∙ ap (λ item. text ++ from item) c.row-item.is)
