use Rattle.std.proofs.Common.{◌<◌, arith, length}
use Rattle.table.proofs.TreeLemmas.{mark_step, rises_same}
use Rattle.table.proofs.tree.mark_originals.Goals as goal

pub is_original-original-requires-clause-caps : goal.is_original-original-requires-clause-caps
is_original-original-requires-clause-caps c =
    rises_same c.loop-i.caps c.args.caps.now c.loop-i.invariant.same c.requires.caps

pub loop-i-preserved : goal.loop-i-preserved
loop-i-preserved c =
    let within : c.loop-i.i < length c.loop-i.caps = omega arith in
    mark_step c.args.caps.now c.loop-i.caps c.args.pairs.now c.loop-i.i _ c.is_original-original.result c.loop-i.invariant within
    c.is_original-original.ensures
