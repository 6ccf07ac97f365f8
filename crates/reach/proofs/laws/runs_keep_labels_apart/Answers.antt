use Rattle.policy.specs.Policy.{allows}
use Rattle.reach.proofs.laws.runs_keep_labels_apart.Goals as goal

pub returns-clause-apart : goal.returns-clause-apart
returns-clause-apart c = λ t edges acts a l lawful reach.
    c.bounded_systems_keep_labels_apart.ensures.apart t (allows edges) acts a l
    (c.runs_stay_in_reach.ensures.safe t edges lawful reach).narrow

pub returns-clause-takes : goal.returns-clause-takes
returns-clause-takes c = λ t edges acts a l lawful reach.
    c.bounded_systems_keep_labels_apart.ensures.takes t (allows edges) acts a l
    (c.runs_stay_in_reach.ensures.safe t edges lawful reach).narrow
