-- A lesser system's labels change, shrink and see no more, and no more flows between them.
use Rattle.diff.proofs.{WithinChanges.{changes, shrinks}, WithinFlows.{apart, leads, sees}}
use Rattle.diff.proofs.within.lesser_systems_do_no_more.Goals as goal

pub returns-clause-changes : goal.returns-clause-changes
returns-clause-changes c = changes

pub returns-clause-shrinks : goal.returns-clause-shrinks
returns-clause-shrinks c = shrinks

pub returns-clause-sees : goal.returns-clause-sees
returns-clause-sees c = sees

pub returns-clause-leads : goal.returns-clause-leads
returns-clause-leads c = λ twin inner outer lies filters others free from to chain.
    leads twin inner outer lies filters others free from chain

pub returns-clause-apart : goal.returns-clause-apart
returns-clause-apart c = apart
