use Rattle.std.proofs.Common.{[], flat_map}
use Rattle.labels.{specs.TableEdges.{edges_of_binding, edges_of_filled}, proofs.TableAuthority.found_more}
use Rattle.labels.proofs.boot_authority.collected.Goals as goal

pub loop-filled-preserved : goal.loop-filled-preserved
loop-filled-preserved c = λ from kind to.
    let t = c.args.table.now in
    found_more (edges_of_filled t) [] c.loop-filled.found c.add_slot.new.found c.caps-filled-items.result.now t.caps c.loop-filled.filled-index _
    from kind to c.caps-filled-items.ensures.caps c.loop-filled-test.true (c.loop-filled.invariant from kind to)
    (c.in_ok-add_slot.ensures.ok from kind to)

pub loop-binding-preserved : goal.loop-binding-preserved
loop-binding-preserved c = λ from kind to.
    let t = c.args.table.now in
    found_more (edges_of_binding t) (flat_map (edges_of_filled t) t.caps) c.loop-binding.found
    c.add_binding.new.found c.bindings-binding-items.result.now t.bindings c.loop-binding.binding-index _ from kind to
    c.bindings-binding-items.ensures.bindings c.loop-binding-test.true (c.loop-binding.invariant from kind to)
    (c.in_ok-add_binding.ensures.ok from kind to)
