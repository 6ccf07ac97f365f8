use Rattle.std.proofs.Common.{◌∙◌, ap}
use Rattle.{machine.specs.Changes.with_none_going, removal.proofs.Dropped.{filled_beside_cut_off, filled_without}}
use Rattle.removal.proofs.dropping.drop_going.Goals as goal

pub clear_going-requires : goal.clear_going-requires
clear_going-requires c =
    rw c.remove_going.ensures
    (filled_without c.args.state.now c.args.state.now.going
    (filled_beside_cut_off c.args.state.now c.keeps_a_forest.ensures.paired c.requires))

pub returns : goal.returns
returns c = c.clear_going.ensures ∙ ap with_none_going c.remove_going.ensures
