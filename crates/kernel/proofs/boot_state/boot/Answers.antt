use Rattle.kernel.proofs.boot_state.boot.Goals as goal

pub returns-clause-well_formed : goal.returns-clause-well_formed
returns-clause-well_formed c =
    c.boot_states_are_well_formed.ensures.well_formed c.args.table.now c.derive.new.state c.derive.ensures.lawful
    c.derive.ensures.booted
