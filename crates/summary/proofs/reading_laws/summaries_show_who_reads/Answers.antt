-- Reads and writes that a summary doesn't show never happen: each is by an edge, and what is written is memory of the table.
use Rattle.std.proofs.Common.{◌||◌, ◌≡◌, Bool, false, inl, refl, sym}
use Rattle.{base.specs.declared.kind.Kind.{Kind, Kind as authority}, machine.specs.Machine.Machine, policy.specs.Policy.allows}
use Rattle.integrity.{specs.{Invariant.IsSound, Safe.IsReached}, proofs.{Runs.sound_at, Starting.starts_kept}}
use Rattle.summary.{specs.Reading.NeverUses, proofs.{Memory.written_has_memory, ReadEdges.{never_uses, used_edge}}}
use Rattle.summary.proofs.reading_laws.summaries_show_who_reads.Goals as goal

pub returns-clause-memory : goal.returns-clause-memory
returns-clause-memory c = λ t edges a l lawful reach none region apart writes reads.
    let sound : (m : Machine) → IsReached t m → IsSound t (allows edges) m =
    sound_at t (allows edges) reach.sharp (starts_kept t (allows edges) (c.boot_states_are_well_formed.ensures.well_formed t) lawful reach.boot) in
    let rise = reach.sharp.uses_rise in
    none (record {
      region = region;
      writes = used_edge t (allows edges) rise sound a authority.Write region writes;
      held = record {
        memory = written_has_memory t (allows edges) sound a region writes;
        has = inl (used_edge t (allows edges) rise sound l authority.Read region reads);
        apart = λ same. apart (sym same);
      };
    })

none_of : (a b c : Bool) → ((a || b) || c) ≡ false → (a ≡ false) × ((b ≡ false) × (c ≡ false))
none_of false false false is = (refl, (refl, refl))
none_of _ _ _ is = cc

pub returns-clause-readers : goal.returns-clause-readers
returns-clause-readers c = λ t edges a l lawful reach none.
    let sound : (m : Machine) → IsReached t m → IsSound t (allows edges) m =
    sound_at t (allows edges) reach.sharp (starts_kept t (allows edges) (c.boot_states_are_well_formed.ensures.well_formed t) lawful reach.boot) in
    let test = allows edges in
    let lacks = none_of (test a authority.Read l) (test a authority.Receive l) (test a authority.Await l) none in
    let never : (by : Kind) → test a by l ≡ false → NeverUses t a by l = λ by without m next event outcome reached step done mine id labelled.
    never_uses t test reach.sharp.uses_rise m next event outcome (sound m reached) step done a mine by l without id labelled in
    record { words = never authority.Read lacks.0; messages = never authority.Receive lacks.1.0; signals = never authority.Await lacks.1.1 }
