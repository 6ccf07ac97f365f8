use Rattle.std.proofs.Common.{◌∙◌, get_or}
use Rattle.base.specs.Labels.{is_in, is_in_part, no_part}
use Rattle.base.proofs.labels.Labels.has.Goals as goal

pub returns : goal.returns
unfolding is_in
returns c = c.has.ensures ∙ (λ i. is_in_part (get_or c.args.self.parts (c.place-part.ensures.part i) no_part) (c.place-part.ensures.number i))
