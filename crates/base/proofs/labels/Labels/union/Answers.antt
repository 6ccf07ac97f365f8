use Rattle.std.proofs.Common.{◌||◌, ◌≡◌, arith, length, refl}
use Rattle.base.proofs.LabelParts.{by_parts}
use Rattle.base.proofs.labels.Labels.union.Goals as goal

pub returns : goal.returns
returns c =
    let one : length c.args.self.parts ≡ 4 = omega arith in
    let other : length c.args.other.parts ≡ 4 = omega arith in
    by_parts ◌||◌ refl c.args.self.parts c.args.other.parts _ _ _ _ one other
    c.union.ensures c.union-2.ensures c.union-3.ensures c.union-4.ensures
