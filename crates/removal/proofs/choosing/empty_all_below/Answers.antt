-- Each turn takes out one slot that descends, and none is left when the slot has no child.
use Rattle.std.{specs.FinMap.keys, proofs.Common.◌∙◌}
use Rattle.machine.specs.Below.{is_below}
use Rattle.removal.proofs.{Chosen.same_parents, Clearing.{below_empty, cleared_more, clearing_begun, fewer_pairs, node_listed}}
use Rattle.removal.proofs.Clearing.{parents_cleared}
use Rattle.removal.proofs.choosing.empty_all_below.Goals as goal

pub loop-child-init : goal.loop-child-init
loop-child-init c = rw c.clear_going.ensures (clearing_begun c.args.state.now c.args.above)

pub loop-child-smaller : goal.loop-child-smaller
loop-child-smaller c =
    fewer_pairs c.loop-child.state c.take_out.new.state c.args.above c.in-Some.child c.in-Some.ensures.some
    c.take_out.ensures.parents (keys c.args.state.now.parents)
    (node_listed c.args.state.now c.args.above c.loop-child.state c.loop-child.invariant c.in-Some.child c.in-Some.ensures.some)

pub loop-child-preserved : goal.loop-child-preserved
loop-child-preserved c =
    cleared_more c.args.state.now c.args.above c.loop-child.state c.loop-child.invariant c.in-Some.child c.in-Some.ensures.some
    c.take_out.new.state c.take_out.ensures.rest c.take_out.ensures.parents c.take_out.ensures.going

pub returns-clause-emptied : goal.returns-clause-emptied
returns-clause-emptied c =
    let none = rw c.in_default.is at c.first_child.ensures.none in
    c.cascade.ensures.emptied c.args.state.now (is_below c.args.state.now c.args.above) c.loop-child.invariant.way
    (below_empty c.args.state.now c.args.above c.loop-child.state c.loop-child.invariant none)

pub returns-clause-parents : goal.returns-clause-parents
returns-clause-parents c = λ q.
    let none = rw c.in_default.is at c.first_child.ensures.none in
    same_parents c.loop-child.state c.cascade.new.state c.cascade.ensures.rest q
    ∙ parents_cleared c.args.state.now c.args.above c.loop-child.state c.loop-child.invariant none q
