use Rattle.certificate.{specs.declared.line.Line.TheVariants.Cap, proofs.RightLines.given_kinds}
use Rattle.certificate.proofs.making.cap_line.Goals as goal

-- the kinds that the code finds are those that the capability gives
pub returns : goal.returns
returns c =
    let filled = c.args.filled.now in
    let kinds = given_kinds filled.cap.detail c.kinds.result c.kinds.ensures.each c.kinds.ensures.alone in
    λ i. Cap filled.slot (c.label_in.ensures i) (kinds i) (c.label_in-2.ensures i)
