use Rattle.policy.{specs.Sharp.Told, proofs.Sharpness.fewer_keepers}
use Rattle.integrity.{specs.Keeping.MayKeep, proofs.{Runs.safe_from, Starting.starts_kept}}
use Rattle.integrity.proofs.safe.sharply_confined_systems_are_safe.Goals as goal

pub returns-clause-keepers : goal.returns-clause-keepers
returns-clause-keepers c = λ t allowed lawful sharp confined.
    safe_from t allowed sharp (starts_kept t allowed (c.boot_states_are_well_formed.ensures.well_formed t) lawful confined)

pub returns-clause-told : goal.returns-clause-told
returns-clause-told c = λ t allowed keeps lawful told sharp confined.
    safe_from t allowed (fewer_keepers allowed (Told keeps) (MayKeep t allowed) told sharp)
    (starts_kept t allowed (c.boot_states_are_well_formed.ensures.well_formed t) lawful confined)
