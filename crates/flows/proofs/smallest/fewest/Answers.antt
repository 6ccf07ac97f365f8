-- Each turn looks for sets of one label more, while no set has fewer.
use Rattle.std.proofs.{Common.{◌<◌, ◌≡◌, arith, length}, lemmas.Grind.common_steps}
use Rattle.flows.{specs.{Smallest.HasSize, Stages.Completes, Ways.Separates}, proofs.Fewest.{begun, completes_all, first_alike, more}}
use Rattle.flows.proofs.smallest.fewest.Goals as goal

pub returns-then-not-is_empty : goal.returns-then-not-is_empty
returns-then-not-is_empty c =
    let rows = c.args.rows.now in
    let from = c.args.question.now.from in
    let to = c.args.question.now.to in
    let others = c.args.others in
    let size = c.loop-size.size in
    let some : 0 < length c.in_ok-found.found.sets.items = grind (arith, common_steps) in
    record {
      size = size;
      small = omega arith;
      least = c.loop-size.invariant;
      first = first_alike (Completes rows from to (begun rows from to others c.none.result c.none.ensures size)) (HasSize (Separates rows from to others) size)
          (completes_all rows from to others c.none.result c.none.ensures size) c.in_ok-found.found.sets.items c.in_ok-found.found.all c.in_ok-found.ensures.first;
      some = some;
      few = c.in_ok-found.ensures.few;
      full = c.in_ok-found.ensures.full;
    }

pub loop-size-preserved : goal.loop-size-preserved
loop-size-preserved c =
    let empty : length c.in_ok-found.found.sets.items ≡ 0 = grind (arith, common_steps) in
    more c.args.rows.now c.args.question.now.from c.args.question.now.to c.args.others c.none.result c.none.ensures c.loop-size.size
    c.in_ok-found.found.sets.items c.in_ok-found.found.all c.args.question.now.most c.requires.some empty c.in_ok-found.ensures.first
    c.in_ok-found.ensures.full c.loop-size.invariant
