use Rattle.{policy.proofs.Sharpness.closed_sharply, integrity.{specs.Keeping.MayKeep, proofs.{Runs.safe_from, Starting.starts_kept}}}
use Rattle.integrity.proofs.safe.confined_systems_are_safe.Goals as goal

pub returns : goal.returns
returns c = λ t allowed lawful closed confined.
    safe_from t allowed (closed_sharply allowed (MayKeep t allowed) closed)
    (starts_kept t allowed (c.boot_states_are_well_formed.ensures.well_formed t) lawful confined)
