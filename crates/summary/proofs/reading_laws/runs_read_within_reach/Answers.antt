-- Reads and writes need an edge of the reach, or of any policy that has the boot state's authority.
use Rattle.{policy.specs.Policy.allows, integrity.proofs.{Runs.sound_at, Starting.starts_kept}, summary.proofs.ReadEdges.never_uses}
use Rattle.summary.proofs.reading_laws.runs_read_within_reach.Goals as goal

pub returns-clause-reach : goal.returns-clause-reach
returns-clause-reach c = λ t edges a by l lawful reach lacks m next event outcome reached step done mine id labelled.
    never_uses t (allows edges) reach.sharp.uses_rise m next event outcome
    (sound_at t (allows edges) reach.sharp (starts_kept t (allows edges) (c.boot_states_are_well_formed.ensures.well_formed t) lawful reach.boot) m reached)
    step done a mine by l lacks id labelled

pub returns-clause-policy : goal.returns-clause-policy
returns-clause-policy c = λ t allowed a by l lawful sharp boot lacks m next event outcome reached step done mine id labelled.
    never_uses t allowed sharp.uses_rise m next event outcome
    (sound_at t allowed sharp (starts_kept t allowed (c.boot_states_are_well_formed.ensures.well_formed t) lawful boot) m reached) step done a mine by l lacks
    id labelled
