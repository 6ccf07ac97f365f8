use Rattle.{std.proofs.Common.{inl, refl}, noninterference.proofs.Looking.looks_alike}
use Rattle.noninterference.proofs.laws.steps_look_alike.Goals as goal

pub returns : goal.returns
returns c = λ t allowed acts a m n next after event outcome other lawful fixed sharp boots actors one two mine alike step again.
    looks_alike t allowed acts lawful fixed sharp boots actors (c.boot_states_are_well_formed.ensures.well_formed t) a m n event one two mine
    (λ actor. alike) (alike.seen event.thread a mine (inl refl)) outcome other next after step again
