use Rattle.std.proofs.Common.{◌&&◌, ◌≡◌, arith, length, not, refl}
use Rattle.base.proofs.LabelParts.{by_parts}
use Rattle.base.proofs.labels.Labels.difference.Goals as goal

pub returns : goal.returns
returns c =
    let one : length c.args.self.parts ≡ 4 = omega arith in
    let other : length c.args.other.parts ≡ 4 = omega arith in
    by_parts (λ has lacks. has && not lacks) refl c.args.self.parts c.args.other.parts _ _ _ _ one other
    c.difference.ensures c.difference-2.ensures c.difference-3.ensures c.difference-4.ensures
