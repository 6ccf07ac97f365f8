-- A slot that has left the tree is emptied as it would have been in it.
use Rattle.std.proofs.Common.{◌∙◌, ap, inl}
use Rattle.machine.{specs.{Machine.{Machine, parent_of, same_slot}, WellFormed.child}, proofs.Exchange.slot_itself}
use Rattle.derivation.proofs.Leavings.{left_alone, node_left}
use Rattle.removal.proofs.{Beside.going_stays, EmptiedLooks.{emptied_apart, parents-emptied}}
use Rattle.removal.proofs.choosing.take_out.Goals as goal

pub empty_slot-requires-clause-going : goal.empty_slot-requires-clause-going
empty_slot-requires-clause-going c = going_stays c.args.state.now c.remove_node.new.state c.remove_node.ensures.rest c.requires

pub empty_slot-requires-clause-place : goal.empty_slot-requires-clause-place
empty_slot-requires-clause-place c =
    let left =
    node_left c.args.state.now c.remove_node.new.state c.args.slot (λ at. c.keeps_a_forest.ensures.acyclic c.args.slot (child at))
    c.remove_node.ensures in
    inl (left_alone c.args.state.now c.remove_node.new.state (λ q. same_slot q c.args.slot) left c.args.slot (slot_itself c.args.slot))

pub returns-clause-rest : goal.returns-clause-rest
returns-clause-rest c =
    emptied_apart c.args.state.now c.remove_node.new.state c.empty_slot.new.state c.args.slot c.remove_node.ensures.rest
    c.empty_slot.ensures.value

pub returns-clause-parents : goal.returns-clause-parents
returns-clause-parents c = λ q.
    ap (λ (m : Machine). parent_of m q) c.empty_slot.ensures.value ∙ parents-emptied c.remove_node.new.state c.args.slot q
    ∙ c.remove_node.ensures.parents q
