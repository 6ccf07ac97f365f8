use Rattle.std.proofs.Common.{◌/◌, ◌==◌, ◌∙◌, ◌≡◌, ap}
use Rattle.base.proofs.LabelParts.{in_one_part}
use Rattle.base.proofs.labels.Labels.only.Goals as goal

pub returns : goal.returns
returns c =
    let part : c.place-part.result.0 ≡ c.args.label / 64 = c.place-part.ensures.part in
    in_one_part c.args.label c.none-parts.result c.only.result c.place-part.result.0 part c.place-part.ensures.below c.none-parts.ensures
    (λ n. c.only.ensures n ∙ ap (λ m. n == m) c.place-part.ensures.number)
