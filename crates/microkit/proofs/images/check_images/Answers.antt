use Rattle.std.proofs.{Common.{◌+◌, ◌∙◌, ap, sym}, lemmas.List.take_rest}
use Rattle.{xml.specs.View.{node_of, nodes_of}, microkit.{specs.Images.lacks_image, proofs.ImageSteps.{one_has, one_lacks}}}
use Rattle.microkit.proofs.images.check_images.Goals as goal

pub returns-then-lacks_image : goal.returns-then-lacks_image
returns-then-lacks_image c =
    let following =
    ap
    (λ rest. lacks_image (node_of c.index-elements-number.result) (nodes_of rest))
    (take_rest c.args.elements.now (c.loop-number.number + 1)) in
    sym
    (one_lacks c.args.elements.now c.loop-number.number c.index-elements-number.result c.loop-number-test.true
    c.index-elements-number.is (sym following ∙ sym c.lacks_image.ensures ∙ c.if-lacks_image.true))
    ∙ c.loop-number.invariant

pub loop-number-preserved : goal.loop-number-preserved
loop-number-preserved c =
    let following =
    ap
    (λ rest. lacks_image (node_of c.index-elements-number.result) (nodes_of rest))
    (take_rest c.args.elements.now (c.loop-number.number + 1)) in
    sym
    (one_has c.args.elements.now c.loop-number.number c.index-elements-number.result c.loop-number-test.true
    c.index-elements-number.is (sym following ∙ sym c.lacks_image.ensures ∙ c.if-lacks_image.false))
    ∙ c.loop-number.invariant
