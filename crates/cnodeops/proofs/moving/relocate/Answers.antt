-- The filled target is in no pair of the tree.
use Rattle.{std.proofs.Common.inl, machine.specs.Machine.with_cap, derivation.proofs.Moves.exchanged_alone}
use Rattle.cnodeops.proofs.CopyLemmas.{filled_alone, filled_now, object_there}
use Rattle.cnodeops.proofs.moving.relocate.Goals as goal

pub put_cap-requires-clause-object : goal.put_cap-requires-clause-object
put_cap-requires-clause-object c =
    object_there c.args.state.now c.args.ends.source c.args.ends.held c.requires.well_formed c.requires.filled

pub move_node-requires-clause-target : goal.move_node-requires-clause-target
move_node-requires-clause-target c =
    rw c.put_cap.ensures (filled_now c.args.state.now c.args.ends.target c.args.ends.held)

pub move_node-requires-clause-alone : goal.move_node-requires-clause-alone
move_node-requires-clause-alone c =
    rw c.put_cap.ensures
    (filled_alone c.args.state.now c.args.ends.target c.args.ends.held c.requires.well_formed c.requires.vacant)

pub take_cap-requires : goal.take_cap-requires
take_cap-requires c =
    rw (c.move_node.ensures, c.put_cap.ensures)
    (inl
    (exchanged_alone (with_cap c.args.state.now c.args.ends.target c.args.ends.held) c.args.ends.source c.args.ends.target
    (filled_alone c.args.state.now c.args.ends.target c.args.ends.held c.requires.well_formed c.requires.vacant)))
