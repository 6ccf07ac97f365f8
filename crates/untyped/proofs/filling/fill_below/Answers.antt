-- The filled slot is in no pair of the tree.
use Rattle.untyped.proofs.Filled.{filled_alone, filled_here, filled_there}
use Rattle.untyped.proofs.filling.fill_below.Goals as goal

pub insert_child-requires-clause-below : goal.insert_child-requires-clause-below
insert_child-requires-clause-below c = rw c.put_cap.ensures (filled_here c.args.state.now c.args.slot c.args.cap)

pub insert_child-requires-clause-above : goal.insert_child-requires-clause-above
insert_child-requires-clause-above c =
    rw c.put_cap.ensures (filled_there c.args.state.now c.args.slot c.args.parent c.args.cap c.requires.above)

pub insert_child-requires-clause-alone : goal.insert_child-requires-clause-alone
insert_child-requires-clause-alone c =
    rw c.put_cap.ensures
    (filled_alone c.args.state.now c.args.slot c.args.cap c.requires.alone)
