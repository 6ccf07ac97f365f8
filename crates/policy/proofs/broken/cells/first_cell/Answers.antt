use Rattle.std.proofs.Common.{◌<◌, arith, subst}
use Rattle.{base.specs.Kinds.kind_number, policy.proofs.KindNumbers.{kind_number_below, number_at}}
use Rattle.policy.proofs.broken.cells.first_cell.Goals as goal

pub returns-in-Some : goal.returns-in-Some
returns-in-Some g c = (
  (c.labels_at.result, c.labels_at.ensures, c.in-Some.ensures.some),
  λ kind lt. c.loop-kind.invariant kind (subst (λ n. kind_number kind < n) (number_at c.loop-kind.kind-index _ c.loop-kind-test.true) lt),
)

pub returns : goal.returns
returns g c kind =
    let below = kind_number_below kind in
    let lt : kind_number kind < c.loop-kind.kind-index = omega (arith, below) in
    c.loop-kind.invariant kind lt
