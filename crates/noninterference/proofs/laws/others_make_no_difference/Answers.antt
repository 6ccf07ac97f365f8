-- Runs without filters, for which filters show nothing; and the closed set between two labels.
use Rattle.{base.specs.Labels.is_in, policy.specs.Policy.allows, reach.proofs.LeastReach.actors_told}
use Rattle.noninterference.proofs.Purging.{closed_off_set, no_difference}
use Rattle.noninterference.proofs.laws.others_make_no_difference.Goals as goal

pub returns-clause-runs : goal.returns-clause-runs
returns-clause-runs c = λ t allowed acts inside boot m n events others outcomes ends.
    no_difference t allowed acts inside boot m n events others outcomes ends (c.boot_states_are_well_formed.ensures.well_formed t)

pub returns-clause-reach : goal.returns-clause-reach
returns-clause-reach c = λ reach filters from to off boot m n events others outcomes ends is fixed none.
    no_difference reach.table (allows reach.policy) (is_in reach.actors) off.inside boot m n events others outcomes ends
    (c.boot_states_are_well_formed.ensures.well_formed reach.table) is.lawful fixed is.least.sharp is.least.boot (actors_told reach is)
    (closed_off_set (allows reach.policy) (is_in reach.actors) filters from to off none)
