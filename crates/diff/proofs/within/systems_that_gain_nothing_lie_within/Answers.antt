-- A system that gains nothing by any change lies within the old one.
use Rattle.reach.specs.Extents.{limits_of}
use Rattle.diff.{specs.Twins.twin_by_name, proofs.{LesserReaches.{keep, lies, twins_there}, WithinClaims.unbroken}}
use Rattle.diff.proofs.within.systems_that_gain_nothing_lie_within.Goals as goal

pub returns-clause-within : goal.returns-clause-within
returns-clause-within c = λ old new changed was is are none. lies old new is changed are none

pub returns-clause-twins : goal.returns-clause-twins
returns-clause-twins c = λ old new changed was is are none. twins_there old new is changed are none

pub returns-clause-keepers : goal.returns-clause-keepers
returns-clause-keepers c = λ old new changed was is are none. keep old new is changed are none

pub returns-clause-claims : goal.returns-clause-claims
returns-clause-claims c = λ old new changed was is are none claim.
    unbroken (twin_by_name new.table old.table) (limits_of new) (limits_of old) new.table old.table (lies old new is changed are none)
    (twins_there old new is changed are none) claim
