use Rattle.integrity.proofs.{Runs.sound_at, Starting.starts_kept}
use Rattle.integrity.proofs.safe.idlers_wait_without_contexts.Goals as goal

pub returns-clause-waits : goal.returns-clause-waits
returns-clause-waits c = λ t allowed lawful sharp confined m reached.
    (sound_at t allowed sharp (starts_kept t allowed (c.boot_states_are_well_formed.ensures.well_formed t) lawful confined) m reached).idlers

pub returns-clause-borrows : goal.returns-clause-borrows
returns-clause-borrows c = λ t allowed lawful sharp confined m reached.
    (sound_at t allowed sharp (starts_kept t allowed (c.boot_states_are_well_formed.ensures.well_formed t) lawful confined) m reached).borrowers
