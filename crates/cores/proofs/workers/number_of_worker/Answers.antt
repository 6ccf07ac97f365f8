use Rattle.std.{specs.Prelude.{false, true}, proofs.Common.arith}
use Rattle.cores.proofs.{BusyCores.next_number, workers.number_of_worker.Goals.{else-busy-below, then-busy-below}}
use Rattle.cores.proofs.workers.number_of_worker.Goals as goal

pub loop-below-preserved : goal.loop-below-preserved
loop-below-preserved c = record {
  few = elim c.if-busy-below.branch [ then-busy-below w ↦ let is = w.number-is in omega (arith, is) | else-busy-below w ↦ let is = w.number-is in omega (arith, is) ];
  counted =
      λ events known.
      let below = c.number.ensures.below in
      let so_far = c.loop-below.invariant.counted events known in
      elim c.if-busy-below.branch [
        | then-busy-below w ↦
            let is = w.number-is in
            let next = next_number events c.args.busy.now c.loop-below.below c.loop-below.number true known (omega arith) so_far w.if-busy-below.true in
            omega (arith, is, next)
        | else-busy-below w ↦
            let is = w.number-is in
            let next = next_number events c.args.busy.now c.loop-below.below c.loop-below.number false known (omega arith) so_far w.if-busy-below.false in
            omega (arith, is, next)
      ];
}
