use Rattle.policy.specs.Policy.{allows}
use Rattle.verdict.proofs.safe.accepted_systems_keep_labels_apart.Goals as goal

pub returns-clause-apart : goal.returns-clause-apart
returns-clause-apart c = λ t edges acts a l lawful accepted actors change shrink.
    c.bounded_systems_keep_labels_apart.ensures.apart t (allows edges) acts a l
    (c.accepted_systems_are_safe.ensures t edges lawful accepted).narrow actors change shrink

pub returns-clause-takes : goal.returns-clause-takes
returns-clause-takes c = λ t edges acts a l lawful accepted actors change.
    c.bounded_systems_keep_labels_apart.ensures.takes t (allows edges) acts a l
    (c.accepted_systems_are_safe.ensures t edges lawful accepted).narrow actors change
