use Rattle.table.proofs.BootState.{boot_one, boot_state, boot_state_is}
use Rattle.kernel.proofs.boot_laws.each_table_has_one_boot_state.Goals as goal

pub returns-clause-exists : goal.returns-clause-exists
returns-clause-exists c t = (boot_state t, boot_state_is t)

pub returns-clause-one : goal.returns-clause-one
returns-clause-one c = boot_one
