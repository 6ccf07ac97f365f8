use Rattle.std.proofs.Common.{◌∙◌, ap}
use Rattle.microkit.specs.{LabelView.bytes_of, View.description_of}
use Rattle.{separation.specs.Claims.claims_text, commands.specs.Described.Described}
use Rattle.report.proofs.describing.claims_text.Goals as goal

pub returns : goal.returns
returns c =
    let names = ap bytes_of c.deref.ensures.value ∙ c.in_ok-names.ensures in
    c.in_ok-text.ensures
    ∙ ap (λ labels. claims_text labels (description_of c.described.inside.description)) names
    ∙ ap (λ (d : Described). claims_text d.table.labels d.description) c.described.view_is
