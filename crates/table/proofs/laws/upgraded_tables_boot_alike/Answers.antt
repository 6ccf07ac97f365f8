-- Neither definition reads the version.
use Rattle.{std.proofs.Common.refl, machine.specs.{Authority.{label_at, label_of}, Layout.{declared_label, initial_of}}}
use Rattle.table.proofs.Upgraded.{boots, boots_upgraded}
use Rattle.table.proofs.laws.upgraded_tables_boot_alike.Goals as goal

pub returns : goal.returns
unfolding declared_label initial_of label_of label_at
returns c = record { boot = λ t m. (boots t m, boots_upgraded t m); labels = λ t m id. refl }
