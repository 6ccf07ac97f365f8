-- Each time fewer labels may be chosen.
use Rattle.{base.specs.Labels.is_in, flows.specs.Sets.count_below}
use Rattle.base.specs.declared.label.TheConstants.Label as Label
use Rattle.flows.proofs.searching.+add_sets.Given as goal

abbrev pub decreases-add_sets : goal.decreases-add_sets
decreases-add_sets l = count_below (is_in l.stage.now.allowed) Label.COUNT
