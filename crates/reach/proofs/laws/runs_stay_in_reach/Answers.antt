use Rattle.{policy.specs.Policy.allows, reach.proofs.LeastReach.{closed_within, one_reach}}
use Rattle.reach.proofs.laws.runs_stay_in_reach.Goals as goal

pub returns-clause-safe : goal.returns-clause-safe
returns-clause-safe c = λ t edges lawful reach.
    c.sharply_confined_systems_are_safe.ensures.keepers t (allows edges) lawful reach.sharp reach.boot

pub returns-clause-within : goal.returns-clause-within
returns-clause-within c = closed_within

pub returns-clause-one : goal.returns-clause-one
returns-clause-one c = one_reach
