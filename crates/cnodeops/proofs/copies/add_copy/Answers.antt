-- The filled target is in no pair of the tree, and the parent of the copy is filled.
use Rattle.std.proofs.Common.{◌∙◌, sym}
use Rattle.cnodeops.proofs.CopyLemmas.{filled_alone, filled_now, object_there, parent_apart, parent_still}
use Rattle.cnodeops.proofs.copies.add_copy.Goals as goal

pub put_cap-requires-clause-object : goal.put_cap-requires-clause-object
put_cap-requires-clause-object c =
    rw c.copied.ensures
    (object_there c.args.state.now c.args.ends.source c.args.ends.held c.requires.well_formed c.requires.filled)

pub insert_child-requires-clause-below : goal.insert_child-requires-clause-below
insert_child-requires-clause-below c = rw c.put_cap.ensures (filled_now c.args.state.now c.args.ends.target c.copied.result)

pub insert_child-requires-clause-above : goal.insert_child-requires-clause-above
insert_child-requires-clause-above c =
    let ends = c.args.ends in
    rw c.put_cap.ensures
    (parent_still c.args.state.now ends.target ends.source c.in-Some.parent ends.held c.copied.result c.requires.well_formed
    c.requires.filled (sym c.parent_of_copy-parent.ensures ∙ c.in-Some.is))

pub insert_child-requires-clause-apart : goal.insert_child-requires-clause-apart
insert_child-requires-clause-apart c =
    let ends = c.args.ends in
    parent_apart c.args.state.now ends.target ends.source c.in-Some.parent ends.held c.requires.well_formed c.requires.vacant
    c.requires.filled (sym c.parent_of_copy-parent.ensures ∙ c.in-Some.is)

pub insert_child-requires-clause-alone : goal.insert_child-requires-clause-alone
insert_child-requires-clause-alone c =
    rw c.put_cap.ensures
    (filled_alone c.args.state.now c.args.ends.target c.copied.result c.requires.well_formed c.requires.vacant)
