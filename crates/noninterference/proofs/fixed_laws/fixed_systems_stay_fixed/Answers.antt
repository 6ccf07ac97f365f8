-- Runs of a fixed system leave it as it is, by induction over their events.
use Rattle.noninterference.proofs.{RunsStay.{boot_fixed, run_refuses, run_stays}, SameFinds.find_alike}
use Rattle.noninterference.proofs.fixed_laws.fixed_systems_stay_fixed.Goals as goal

pub returns-clause-stays : goal.returns-clause-stays
returns-clause-stays c = λ t boot m events outcomes lawful fixed booted ran.
    run_stays boot events outcomes m (c.boot_states_are_well_formed.ensures.well_formed t boot lawful booted)
    (boot_fixed t boot fixed booted) ran

pub returns-clause-refuses : goal.returns-clause-refuses
returns-clause-refuses c = λ t boot m next events outcomes event outcome lawful fixed booted ran needs step.
    run_refuses boot m next events outcomes event outcome (c.boot_states_are_well_formed.ensures.well_formed t boot lawful booted)
    (boot_fixed t boot fixed booted) ran needs step

pub returns-clause-finds : goal.returns-clause-finds
returns-clause-finds c = λ t boot m events outcomes thread address lawful fixed booted ran.
    find_alike boot m
    (run_stays boot events outcomes m (c.boot_states_are_well_formed.ensures.well_formed t boot lawful booted)
    (boot_fixed t boot fixed booted) ran)
    thread address
