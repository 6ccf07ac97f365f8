-- The passes of a sweep, each of which finds what the one before left.
use Rattle.std.proofs.Common.{◌∙◌}
use Rattle.removal.proofs.Swept.{all_removed, going_cut_off, links_agree}
use Rattle.removal.proofs.sweeping.sweep.Goals as goal

pub leave_tree-requires : goal.leave_tree-requires
leave_tree-requires c = λ slot parent at listed. c.requires.2.emptied.hollow parent listed

pub finalise-requires : goal.finalise-requires
finalise-requires c =
    links_agree c.requires.0 c.requires.1 c.args.state.now c.requires.2 c.keeps_a_forest.ensures.below
    c.keeps_a_forest.ensures.above c.leave_tree.new.state c.leave_tree.ensures

pub drop_going-requires : goal.drop_going-requires
drop_going-requires c =
    going_cut_off c.requires.0 c.requires.1 c.args.state.now c.requires.2 c.keeps_a_forest.ensures.below
    c.keeps_a_forest.ensures.above c.leave_tree.new.state c.leave_tree.ensures c.finalise.new.state c.finalise.ensures

pub returns : goal.returns
returns c = λ m chosen found.
    c.drop_going.ensures
    ∙ all_removed m chosen c.args.state.now found c.keeps_a_forest.ensures.below c.keeps_a_forest.ensures.above
    c.leave_tree.new.state c.leave_tree.ensures c.finalise.new.state c.finalise.ensures
