use Rattle.{machine.specs.WellFormed.child, derivation.proofs.Leavings.node_left}
use Rattle.derivation.proofs.removing.take_out.Goals as goal

pub returns : goal.returns
returns c =
    node_left c.args.state.now c.remove_node.new.state c.args.slot
    (λ at. c.keeps_a_forest.ensures.acyclic c.args.slot (child at)) c.remove_node.ensures
