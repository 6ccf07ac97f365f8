-- The place where the loop over the comments and tags ends by a fault.
use Rattle.std.proofs.{Common.{◌<◌, ◌==◌, ◌∙◌, ◌≡◌, ap, length, sym}, lemmas.Result.err_from_is_err_and}
use Rattle.xml.{specs.{Document.{item_at}, Place.{Place, after_spaces}}, proofs.Loops.{items_fault, some_left}}
use Rattle.xml.proofs.document.Draft.take_items.Goals as goal

pub returns-in_err-take_item : goal.returns-in_err-take_item
returns-in_err-take_item c =
    let p = err_from_is_err_and c.from_residual.result c.from_residual.ensures.1 in
    let draft = c.loop.self in
    let place = c.loop.cursor in
    let same : length c.rest.result.now ≡ length (after_spaces place).rest =
    ap length c.rest.ensures ∙ ap (λ (at : Place). length at.rest) c.spaces.ensures in
    let some : 0 < length (after_spaces place).rest =
    some_left _ (ap (λ n. n == 0) (sym same) ∙ sym c.is_empty.ensures ∙ c.if-is_empty.false) in
    rw (p.1, p.2)
    (λ lacked. sym c.loop.invariant
    ∙ items_fault c.args.count c.loop.counter draft place _ c.loop-test.true some
    (ap (λ (at : Place). item_at draft at) (sym c.spaces.ensures) ∙ c.in_err-take_item.ensures lacked))
