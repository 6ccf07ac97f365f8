-- Runs that differ beside filters, event by event; and a set that is closed off by filters is closed beside them.
use Rattle.{base.specs.Labels.is_in, policy.specs.Policy.allows, reach.proofs.LeastReach.actors_told}
use Rattle.noninterference.proofs.Purging.{closed_off_beside, filtered_runs_alike}
use Rattle.noninterference.proofs.laws.others_act_through_filters.Goals as goal

pub returns-clause-runs : goal.returns-clause-runs
returns-clause-runs c = λ t allowed acts filters inside boot m n events others outcomes ends lawful fixed sharp boots actors closed booted runs.
    filtered_runs_alike t allowed acts lawful fixed sharp boots actors (c.boot_states_are_well_formed.ensures.well_formed t) filters inside
    closed boot booted m n events others outcomes ends runs

pub returns-clause-reach : goal.returns-clause-reach
returns-clause-reach c = λ reach filters from to off boot m n events others outcomes ends is fixed booted runs.
    filtered_runs_alike reach.table (allows reach.policy) (is_in reach.actors) is.lawful fixed is.least.sharp is.least.boot (actors_told reach is)
    (c.boot_states_are_well_formed.ensures.well_formed reach.table) filters off.inside
    (closed_off_beside (allows reach.policy) (is_in reach.actors) filters from to off) boot booted m n events others outcomes ends runs
