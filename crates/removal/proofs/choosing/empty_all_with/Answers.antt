-- The chosen slot has been emptied and has left the tree, and the cascade does the rest.
use Rattle.std.proofs.Common.{◌∙◌, ap}
use Rattle.{machine.specs.Machine.{Machine, same_slot}, derivation.specs.Removing.parent_without}
use Rattle.removal.proofs.{Beside.{none_going, without-with_none_going}, Chosen.{chosen_empty, chosen_way, same_parents}}
use Rattle.removal.proofs.choosing.empty_all_with.Goals as goal

pub take_out-requires : goal.take_out-requires
take_out-requires c = rw c.clear_going.ensures (none_going c.args.state.now)

pub returns-clause-emptied : goal.returns-clause-emptied
returns-clause-emptied c =
    c.cascade.ensures.emptied c.args.state.now (same_slot c.args.slot)
    (chosen_way c.args.state.now c.args.slot c.take_out.new.state (rw c.clear_going.ensures at c.take_out.ensures.rest))
    (chosen_empty c.args.state.now c.args.slot c.take_out.new.state (rw c.clear_going.ensures at c.take_out.ensures.rest))

pub returns-clause-parents : goal.returns-clause-parents
returns-clause-parents c = λ q.
    same_parents c.take_out.new.state c.cascade.new.state c.cascade.ensures.rest q
    ∙ c.take_out.ensures.parents q
    ∙ ap (λ (m : Machine). parent_without m c.args.slot q) c.clear_going.ensures
    ∙ without-with_none_going c.args.state.now c.args.slot q
